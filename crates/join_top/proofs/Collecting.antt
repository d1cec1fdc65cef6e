-- Bytes that are read piece by piece.
use Rattle.std.proofs.Common.{◌≡◌, ◌∙◌, ℕ, ◌+◌, ◌<◌, ◌≤◌, List, [], ◌++◌, length, take, drop, refl, sym, ap, subst, arith, length-append, length-drop}
use Rattle.std.specs.Prelude.{Bool, true, false, Some, nat_lt}
use Rattle.std.proofs.lemmas.Bool.{ltb-true}
use Rattle.std.specs.declared.option.Option.{Option}
use Rattle.std.proofs.lemmas.List.{take_all, length-take-le}
use Rattle.std.proofs.Math.Seq.{take-add}
use Rattle.dev_io.specs.Streams.{Takes, TakesAtMost, Fills}
use Rattle.dev_io.specs.Laws.{Takes-nothing, Takes-after}
use Rattle.join_top.specs.AllBytes.{IsAllRead, IsPartRead, HasCollected, IsPieceRead}

-- before the first piece
pub nothing_collected : (bytes : List ℕ) (left : Option (List ℕ)) → left ≡ Some bytes → HasCollected bytes left []
nothing_collected bytes left told = record { front = refl; takes = Takes-nothing bytes left told }

-- how many bytes there are with one piece more
piece_size : (bytes all piece : List ℕ) (b : Option (List ℕ)) (n : ℕ) → Fills (drop (length all) bytes) b n piece
    → length (all ++ take n piece) ≡ length all + n
piece_size bytes all piece b n filled =
    let within : n ≤ length piece = omega (arith, filled.count) in
    length-append all (take n piece) ∙ ap (λ m. length all + m) (length-take-le n piece within)

-- one piece more
pub collect_more : (bytes all piece : List ℕ) (a b : Option (List ℕ)) (n : ℕ) → HasCollected bytes a all → Fills (drop (length all) bytes) b n piece
    → HasCollected bytes b (all ++ take n piece)
collect_more bytes all piece a b n so_far filled =
    let size : length (all ++ take n piece) ≡ length all + n = piece_size bytes all piece b n filled in
    record {
      front =
          ap (λ l. l ++ take n piece) so_far.front ∙ ap (λ l. take (length all) bytes ++ l) filled.front
          ∙ sym (take-add (length all) n bytes) ∙ ap (λ m. take m bytes) (sym size);
      takes = subst (λ m. Takes bytes b m) (sym size) (Takes-after bytes a b (length all) n so_far.takes filled.takes);
    }

-- it was the last one
pub collect_last : (bytes all piece : List ℕ) (a b : Option (List ℕ)) (n : ℕ) → HasCollected bytes a all → Fills (drop (length all) bytes) b n piece
    → n < length piece → IsAllRead bytes b (all ++ take n piece)
collect_last bytes all piece a b n so_far filled short =
    let new : HasCollected bytes b (all ++ take n piece) = collect_more bytes all piece a b n so_far filled in
    let size : length (all ++ take n piece) ≡ length all + n = piece_size bytes all piece b n filled in
    let whole : length (all ++ take n piece) ≡ length bytes =
    omega (arith, size, filled.count, short, so_far.takes.within, length-drop (length all) bytes) in
    record {
      all_are = new.front ∙ take_all (length (all ++ take n piece)) bytes (omega (arith, whole));
      takes = subst (λ m. Takes bytes b m) whole new.takes;
    }

-- what was read so far is a part
pub part_collected : (bytes all : List ℕ) (left : Option (List ℕ)) → HasCollected bytes left all → IsPartRead bytes left
part_collected bytes all left so_far = record { count = length all; few = so_far.takes.within; takes = so_far.takes }

-- so it is where the next piece is lost
pub part_lost : (bytes all : List ℕ) (a b : Option (List ℕ)) (most : ℕ) → HasCollected bytes a all → TakesAtMost (drop (length all) bytes) b most
    → IsPartRead bytes b
part_lost bytes all a b most so_far lost =
    let takes : Takes bytes b (length all + lost.count) = Takes-after bytes a b (length all) lost.count so_far.takes lost.takes in
    record { count = length all + lost.count; few = takes.within; takes = takes }

-- the next piece, where the source gives what there is room for, or less at its end
pub piece_read : (bytes all piece new : List ℕ) (a b : Option (List ℕ)) (n : ℕ) → HasCollected bytes a all → Fills (drop (length all) bytes) b n piece
    → new ≡ all ++ take n piece → IsPieceRead bytes b new (nat_lt n (length piece))
piece_read bytes all piece new a b n so_far filled is = subst (λ (l : List ℕ). IsPieceRead bytes b l (nat_lt n (length piece))) (sym is) (go (nat_lt n (length piece)) refl)
  where
    go : (last : Bool) → nat_lt n (length piece) ≡ last → IsPieceRead bytes b (all ++ take n piece) last
    go true e = collect_last bytes all piece a b n so_far filled (ltb-true n (length piece) e)
    go false e = collect_more bytes all piece a b n so_far filled
