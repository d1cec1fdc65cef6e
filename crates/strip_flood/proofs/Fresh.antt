-- Lists of one number, and what is made of them: a flooding before its first turn, and ranks before any was read.
use Rattle.std.proofs.Common.{◌≡◌, ℕ, zero, suc, ◌+◌, ◌<◌, List, [], length, replicate, get_or, ℤ, Option, refl, sym, subst, ap, ◌∙◌, arith}
use Rattle.std.specs.List.{slice_get}
use Rattle.std.proofs.lemmas.List.{get_or-replicate, length-replicate}
use Rattle.comp_tree.specs.Forest.{no_node, value_at}
use Rattle.level_queue.specs.Queue.{empty_queue}
use Rattle.strip_flood.specs.Jobs.{IsAll}
use Rattle.strip_flood.specs.Strips.{IsFresh}
use Rattle.strip_flood.specs.declared.flood.Flood.{Flood}

pub length_of : (xs : List ℕ) (n x : ℕ) → xs ≡ replicate n x → length xs ≡ n
length_of xs n x e = ap length e ∙ length-replicate n x

pub all_of : (xs : List ℕ) (n x : ℕ) → xs ≡ replicate n x → IsAll xs x
all_of xs n x e =
    record {
      each = λ i l. subst (λ ys. get_or ys i 0 ≡ x) (sym e)
          (get_or-replicate n i x 0 (let m : length xs ≡ n = length_of xs n x e in omega arith));
    }

list_length : (n : ℕ) (none : List ℕ) → length (replicate n none) ≡ n
list_length n none = length-replicate n none

none_at : (n rank : ℕ) (none : List ℕ) → get_or (replicate n none) rank none ≡ none
none_at zero rank none = refl
none_at (suc n) zero none = refl
none_at (suc n) (suc rank) none = none_at n rank none

pub fresh_flood : (count size : ℕ) (f : Flood) → f.queue ≡ empty_queue count size → f.cursors.items ≡ replicate count 0
    → f.earliest.items ≡ replicate size no_node → f.links.items ≡ replicate count no_node → IsFresh count size f
fresh_flood count size f queue cursors earliest links = record {
  items = ap (λ q. q.items) queue;
  lists = ap (λ q. length q.lists) queue ∙ list_length size [];
  empty = record { empty = λ rank. ap (λ q. get_or q.lists rank []) queue ∙ none_at size rank [] };
  cursors_length = length_of f.cursors.items count 0 cursors;
  earliest_length = length_of f.earliest.items size no_node earliest;
  links_length = length_of f.links.items count no_node links;
  unseen = all_of f.cursors.items count 0 cursors;
  unkept = all_of f.earliest.items size no_node earliest;
  unlinked = all_of f.links.items count no_node links;
}

-- no pixel in front of the first was read
pub read_none : (values : List (Option ℤ)) (levels : List ℤ) (first : ℕ) (ranks : List ℕ) (i : ℕ) → first + i < first
    → slice_get levels (get_or ranks i 0) ≡ value_at values (first + i)
read_none values levels first ranks i l = absurd (omega arith)
