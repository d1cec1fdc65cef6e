-- A strip in which nothing is queued and each pixel with a value was seen.
use Rattle.std.proofs.Common.{◌≡◌, ℕ, ◌+◌, ◌-◌, ◌<◌, ◌≤◌, Bool, true, false, is_some, length, slice_index, Option, Some, None, ℤ, ◌⊎◌, inl, inr, refl, sym}
use Rattle.std.proofs.Common.{subst, ◌∙◌, ⊎_elim, arith}
use Rattle.std.specs.Prelude.{nat_lt, ◌&&◌}
use Rattle.std.proofs.lemmas.Bool.{cases_lt, and_from, and_parts, true≢false}
use Rattle.comp_tree.specs.Joined.{IsPairOf}
use Rattle.comp_tree.specs.Forest.{no_node, value_at, IsLink, JoinSame, StandsFor}
use Rattle.comp_tree.specs.Defined.{HasValue}
use Rattle.comp_tree.specs.Counts.{count_below, count_defined}
use Rattle.comp_tree.specs.Grid.{are_adjacent, are_neighbours, IsInner}
use Rattle.level_queue.specs.Queue.{IsEmpty}
use Rattle.strip_flood.specs.Flood.{Ground, FloodState, direction_count, direction, IsOf, rank_of, cursor_of, IsOpen, WasLookedAt, IsRanked, IsTurning}
use Rattle.strip_flood.specs.Flood.{seen_count, looks_from, looks}
use Rattle.strip_flood.specs.Jobs.{inner_count}
use Rattle.strip_flood.proofs.Joining.{flooded}
use Rattle.comp_tree.proofs.Exported.{at_least_defined, stands_from}
use Rattle.strip_flood.proofs.Flow.{ends_small}
use Rattle.strip_flood.proofs.Directions.{inner_direction}
use Rattle.strip_flood.proofs.Stepping.{High, Adj}
use Rattle.strip_flood.proofs.Retiring.{contains_some}
use Rattle.strip_flood.proofs.Seeing.{open_list}
use Rattle.strip_flood.proofs.Counting.{sum_same, count_same, lt_true, le_false}

some_by : (v : Option ℤ) → (HasValue v → ⊥) → is_some v ≡ false
some_by (Some v) f = absurd (f refl)
some_by None f = refl

defined_cases : (v : Option ℤ) → HasValue v ⊎ (HasValue v → ⊥)
defined_cases (Some v) = inl refl
defined_cases None = inr (λ d. true≢false (sym d))

module _ (g : Ground) (s : FloodState) (ok : IsRanked g) (turning : IsTurning g s) (empty : IsEmpty s.lists)
    (all : (x : ℕ) → IsOf g x → rank_of g x < g.size → 0 < cursor_of g s.cursors x) where
  -- each pixel with a value is finished
  finished : (x : ℕ) → IsOf g x → rank_of g x < g.size → cursor_of g s.cursors x ≡ 10
  finished x w low = ⊎_elim
      (λ (l : cursor_of g s.cursors x < 10). absurd
      (contains_some _ _ (turning.fair.listed.from x (record { inside = w; low = all x w low; high = l })) (empty.empty (rank_of g x))))
      (λ (m : 10 ≤ cursor_of g s.cursors x). let b : cursor_of g s.cursors x ≤ 10 = turning.fair.bound x w in omega arith)
      (cases_lt (cursor_of g s.cursors x) 10)

  looked : (h : ℤ) (x y : ℕ) → High g h x → High g h y → Adj g x y → IsPairOf (WasLookedAt g s.cursors) x y
  looked h x y hx hy i = inl (record {
    inner = i;
    turned = (let d : direction g.connect g.width x y < direction_count g.connect =
        inner_direction g.values g.width g.connect g.first (length g.ranks) x y ok.wide i in
        let e : direction_count g.connect ≤ 8 = ends_small g.connect in
        let f : cursor_of g s.cursors x ≡ 10 = finished x hx.within (ok.there x hx.within (at_least_defined h (value_at g.values x) hx.value)) in omega arith);
  })

  links_join : JoinSame g.values g.first (length g.ranks) (IsLink g.first s.links) (IsInner g.values g.width g.connect g.first (length g.ranks))
  links_join = record {
    same = λ h p q. flooded (High g h) (Adj g) (WasLookedAt g s.cursors) (IsLink g.first s.links) (IsOpen g s.cursors s.earliest)
        (λ x o. open_list g s ok turning x o (empty.empty (rank_of g x))) (looked h) (turning.fair.joining.sound h) (turning.fair.joining.complete h) p q;
  }

  -- the links stand for the strip's adjacencies
  pub flooded_stands : StandsFor g.values g.first s.links (IsInner g.values g.width g.connect g.first (length s.links))
  flooded_stands = stands_from g.values g.first s.links turning.fair.forest (let l : length s.links ≡ length g.ranks =
      turning.fair.links_length in let m : g.first + length g.ranks ≤ no_node = ok.small in omega arith)
      (IsInner g.values g.width g.connect g.first (length s.links))
      (subst (λ n. JoinSame g.values g.first n (IsLink g.first s.links) (IsInner g.values g.width g.connect g.first n))
      (sym turning.fair.links_length) links_join)

  seen_is_defined : (i : ℕ) → i < length g.ranks → nat_lt 0 (slice_index s.cursors i) ≡ is_some (value_at g.values (g.first + i))
  seen_is_defined i l = subst (λ j. nat_lt 0 (slice_index s.cursors j) ≡ is_some (value_at g.values (g.first + i))) at (⊎_elim
      (λ (d : HasValue (value_at g.values (g.first + i))). lt_true 0 (cursor_of g s.cursors (g.first + i))
      (all (g.first + i) inside (ok.there (g.first + i) inside d)) ∙ sym d)
      (λ (n : HasValue (value_at g.values (g.first + i)) → ⊥). le_false 0 (cursor_of g s.cursors (g.first + i)) (⊎_elim
      (λ (some : 0 < cursor_of g s.cursors (g.first + i)). absurd (n (ok.value (g.first + i) inside (turning.fair.seen (g.first + i) inside some))))
      (λ (no_more : cursor_of g s.cursors (g.first + i) ≤ 0). no_more)
      (cases_lt 0 (cursor_of g s.cursors (g.first + i)))) ∙ sym (some_by (value_at g.values (g.first + i)) n))
      (defined_cases (value_at g.values (g.first + i)))) where
        inside : IsOf g (g.first + i)
        inside = record { low = omega arith; high = omega arith }

        at : g.first + i - g.first ≡ i
        at = omega arith

  -- as many pixels were queued as have a value
  pub seen_all : seen_count s.cursors ≡ count_defined g.values g.first (length g.ranks)
  seen_all = subst (λ n. count_below (λ i. nat_lt 0 (slice_index s.cursors i)) n ≡ count_defined g.values g.first (length g.ranks))
      (sym turning.fair.cursors_length)
      (count_same (λ i. nat_lt 0 (slice_index s.cursors i)) (λ k. is_some (value_at g.values (g.first + k))) (length g.ranks) seen_is_defined)

  -- each adjacency was looked at from either end
  pub looks_all : looks g s.cursors ≡ inner_count g.values g.width g.connect g.first (length g.ranks)
  looks_all = sum_same (λ i. count_below (looks_from g s.cursors i) (length g.ranks))
      (λ i. count_below (λ j. are_adjacent g.values g.width g.connect (g.first + i) (g.first + j)) (length g.ranks)) (length g.ranks)
      (λ i l. count_same (looks_from g s.cursors i) (λ j. are_adjacent g.values g.width g.connect (g.first + i) (g.first + j)) (length g.ranks)
      (λ j m. at i j l m (are_adjacent g.values g.width g.connect (g.first + i) (g.first + j)) refl)) where
        turned : (i j : ℕ) → i < length g.ranks → j < length g.ranks → are_adjacent g.values g.width g.connect (g.first + i) (g.first + j) ≡ true
            → direction g.connect g.width (g.first + i) (g.first + j) + 1 < slice_index s.cursors i
        turned i j l m t =
            let wi : IsOf g (g.first + i) = record { low = omega arith; high = omega arith } in
            let wj : IsOf g (g.first + j) = record { low = omega arith; high = omega arith } in
            let d : direction g.connect g.width (g.first + i) (g.first + j) < direction_count g.connect =
            inner_direction g.values g.width g.connect g.first (length g.ranks) (g.first + i) (g.first + j) ok.wide
            (record { adjacent = t; one = wi; other = wj }) in
            let e : direction_count g.connect ≤ 8 = ends_small g.connect in
            let both : (is_some (value_at g.values (g.first + i)) && is_some (value_at g.values (g.first + j)) ≡ true)
            × (are_neighbours g.connect g.width (g.first + i) (g.first + j) ≡ true)
            = and_parts (is_some (value_at g.values (g.first + i)) && is_some (value_at g.values (g.first + j)))
            (are_neighbours g.connect g.width (g.first + i) (g.first + j)) t in
            let some : HasValue (value_at g.values (g.first + i)) =
            (and_parts (is_some (value_at g.values (g.first + i))) (is_some (value_at g.values (g.first + j))) both.0).0 in
            let at : g.first + i - g.first ≡ i = omega arith in
            let f : slice_index s.cursors i ≡ 10 = subst (λ k. slice_index s.cursors k ≡ 10) at (finished (g.first + i) wi (ok.there (g.first + i) wi some)) in
            omega arith

        at : (i j : ℕ) → i < length g.ranks → j < length g.ranks → (t : Bool) → are_adjacent g.values g.width g.connect (g.first + i) (g.first + j) ≡ t
            → looks_from g s.cursors i j ≡ are_adjacent g.values g.width g.connect (g.first + i) (g.first + j)
        at i j l m true e = and_from (are_adjacent g.values g.width g.connect (g.first + i) (g.first + j))
            (nat_lt (direction g.connect g.width (g.first + i) (g.first + j) + 1) (slice_index s.cursors i)) e
            (lt_true (direction g.connect g.width (g.first + i) (g.first + j) + 1) (slice_index s.cursors i) (turned i j l m e)) ∙ sym e
        at i j l m false e = subst (λ t. (t && nat_lt (direction g.connect g.width (g.first + i) (g.first + j) + 1) (slice_index s.cursors i)) ≡ t) (sym e) refl
