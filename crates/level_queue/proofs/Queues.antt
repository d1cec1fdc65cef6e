-- What the calls of a queue leave, from what they write into the arrays.
use Rattle.std.proofs.Common.{◌≡◌, ◌≢◌, ℕ, ◌^◌, ◌<◌, ◌≤◌, Bool, true, false, List, [], ◌∷◌, ◌++◌, length, map, get_or, set, drop, replicate, Option, Some}
use Rattle.std.proofs.Common.{None, is_some, slice_get, refl, sym, ap, subst, ◌∙◌, inl, inr, arith, length-set}
use Rattle.std.proofs.lemmas.Bool.Decides.{leb_tells}
use Rattle.std.proofs.lemmas.List.{get_or-map, length-map, get_or_past, length-replicate, map-set, set-set, set-get_or}
use Rattle.std.proofs.lemmas.Option.{none-some, slice_get_within, get_or_from_slice_get}
use Rattle.level_queue.specs.declared.queue.Ends.{Ends}
use Rattle.level_queue.specs.Queue.{Queue, list_at, with_list, empty_queue, IsQueued, IsEmpty, IsHighestRank, IsFront}
use Rattle.level_queue.specs.Ranks.{IsEmptySet, IsGreatest}
pub use Rattle.level_queue.specs.Links.{list_between, lists_of, queue_of, IsLaid, Holds}
use Rattle.level_queue.proofs.Links.{slot_cases, laid_lists, Free, appended, shortened, laid_push_first, laid_push_more, laid_pop_last, laid_pop_more, linked}
use Rattle.level_queue.proofs.Links.{no_links, no_ends, no_items, laid_empty, no_marks}

abbrev Links : Type 0
Links = List (Option ℕ)

abbrev AllEnds : Type 0
AllEnds = List (Option Ends)

-- at lists of any form
holds : (links : Links) (ends : AllEnds) (used : List Bool) (ls : List (List ℕ)) → IsLaid links ends ls → used ≡ map is_some ends → length links ≤ 2 ^ 24
    → length ends ≤ 2 ^ 24 → Holds links ends used
holds links ends used ls laid is a b = (subst (IsLaid links ends) (sym (laid_lists links ends ls laid)) laid, is, a, b)

pub in_ranks : (links : Links) (ends : AllEnds) (q : Queue) (r : ℕ) → queue_of links ends ≡ q → r < length q.lists → r < length ends
in_ranks links ends q r is lt = omega (arith, ap (λ (p : Queue). length p.lists) is, length-map ends (list_between links))

differ : (b : Bool) → b ≡ true → b ≡ false → ⊥
differ b y n = let e : true ≡ false = sym y ∙ n in cc

-- ---- a rank that is in use

module _ (ends : AllEnds) (used : List Bool) (is : used ≡ map is_some ends) (r : ℕ) where
  mark_of : r < length ends → get_or used r false ≡ is_some (get_or ends r None)
  mark_of lt = ap (λ bs. get_or bs r false) is ∙ get_or-map is_some ends r None false lt

  pub has_ends : (b : Bool) → r < length ends → b ≡ get_or used r false → b ≡ true → (e : Ends) × (get_or ends r None ≡ Some e)
  has_ends b lt e on =
      elim (slot_cases (get_or ends r None) b (e ∙ mark_of lt)) [
        | inl some ↦ some.1
        | inr none ↦ absurd (differ b on none.0)
      ]

  pub lacks_ends : (b : Bool) → b ≡ get_or used r false → b ≡ false → get_or ends r None ≡ None
  lacks_ends b e off =
      elim (leb_tells (length ends) r) [
        | inl far ↦ get_or_past ends r None far.1
        | inr near ↦
            elim (slot_cases (get_or ends r None) b (e ∙ mark_of near.1)) [
              | inl some ↦ absurd (differ b some.0 off)
              | inr none ↦ none.1
            ]
      ]

  marks_set : (o : Option Ends) → set used r (is_some o) ≡ map is_some (set ends r o)
  marks_set o = ap (λ bs. set bs r (is_some o)) is ∙ sym (map-set is_some ends r o)

  marks_stay : (o : Option Ends) → r < length ends → is_some (get_or ends r None) ≡ is_some o → used ≡ map is_some (set ends r o)
  marks_stay o lt same =
      sym (set-get_or used r false) ∙ ap (set used r) (mark_of lt ∙ same) ∙ marks_set o

-- ---- what the contracts say of an item

pub free_in : (links : Links) (ends : AllEnds) (item : ℕ) → (IsQueued (queue_of links ends) item → ⊥) → Free (lists_of links ends) item
free_in links ends item free s i got =
    let ls = lists_of links ends in
    let xs = get_or ls s [] in
    elim (leb_tells (length ls) s) [
      | inl far ↦ none-some item (sym (ap (λ (ys : List ℕ). slice_get ys i) (get_or_past ls s [] far.1)) ∙ got)
      | inr near ↦ free (s, near.1, (i, slice_get_within xs i item got, get_or_from_slice_get xs i item item got))
    ]

-- the first item of a rank's list, and none where the rank has no ends
first_in : (lists : List (List ℕ)) (r x : ℕ) (xs : List ℕ) → list_at lists r ≡ xs → slice_get xs 0 ≡ Some x → IsFront lists r x
first_in lists r x [] e f = absurd (none-some x f)
first_in lists r x (y ∷ ys) e f = record { rest = ys; front = e ∙ ap (λ z. z ∷ ys) (some_item f) }
  where
    some_item : Some y ≡ Some x → y ≡ x
    some_item s = cc

pub is_front : (links : Links) (ends : AllEnds) (used : List Bool) → Holds links ends used → (r : ℕ) (e : Ends) → get_or ends r None ≡ Some e
    → IsFront (lists_of links ends) r e.first
is_front links ends used h r e was = first_in (lists_of links ends) r e.first (list_at (lists_of links ends) r) refl (h.0.first r e was)

pub none_of : (links : Links) (ends : AllEnds) (used : List Bool) → Holds links ends used → (r : ℕ) → get_or ends r None ≡ None
    → list_at (lists_of links ends) r ≡ []
none_of links ends used h r was = h.0.empty r was

-- ---- the highest rank

module _ (links : Links) (ends : AllEnds) (used : List Bool) (h : Holds links ends used) where
  pub all_empty : IsEmptySet used → IsEmpty (lists_of links ends)
  all_empty none = record { empty = λ r. h.0.empty r (lacks_ends ends used h.1 r (get_or used r false) refl (none r)) }

  pub is_highest : (r : ℕ) → IsGreatest used r → IsHighestRank (lists_of links ends) r
  is_highest r g =
      let long : length used ≡ length ends = ap length h.1 ∙ length-map ends is_some in
      let lt : r < length ends = omega (arith, g.0) in
      let e = has_ends ends used h.1 r (get_or used r false) lt refl g.1 in
      let some : 0 < length (list_at (lists_of links ends) r) =
      slice_get_within (list_at (lists_of links ends) r) 0 e.0.first (h.0.first r e.0 e.1) in
      record {
        inside = omega (arith, length-map ends (list_between links));
        some = λ none. (let zero : length (list_at (lists_of links ends) r) ≡ 0 = ap length none in omega arith);
        above = λ s far. h.0.empty s (lacks_ends ends used h.1 s (get_or used s false) refl (g.2 s far));
      }

  -- ---- an item is appended

  module _ (r item : ℕ) (lt : r < length ends) (inside : item < length links) (free : Free (lists_of links ends) item) where
    pub push_more_holds : (e : Ends) → get_or ends r None ≡ Some e
        → Holds (set links e.last (Some item)) (set ends r (Some (record { first = e.first; last = item }))) used
    push_more_holds e was =
        let d : Ends = record { first = e.first; last = item } in
        holds (set links e.last (Some item)) (set ends r (Some d)) used (appended (lists_of links ends) r item)
        (laid_push_more links ends (lists_of links ends) h.0 r item lt inside free e was)
        (marks_stay ends used h.1 r (Some d) lt (ap is_some was))
        (omega (arith, h.2, length-set links e.last (Some item))) (omega (arith, h.3, length-set ends r (Some d)))

    pub push_more_gives : (e : Ends) → get_or ends r None ≡ Some e
        → queue_of (set links e.last (Some item)) (set ends r (Some (record { first = e.first; last = item })))
        ≡ with_list (queue_of links ends) r (list_at (lists_of links ends) r ++ item ∷ [])
    push_more_gives e was =
        let d : Ends = record { first = e.first; last = item } in
        let n = length-set links e.last (Some item) in
        let l = laid_lists (set links e.last (Some item)) (set ends r (Some d)) (appended (lists_of links ends) r item)
        (laid_push_more links ends (lists_of links ends) h.0 r item lt inside free e was) in
        λ j. record { items = n j; lists = l j }

    pub push_first_holds : get_or ends r None ≡ None → Holds links (set ends r (Some (record { first = item; last = item }))) (set used r true)
    push_first_holds was =
        let d : Ends = record { first = item; last = item } in
        holds links (set ends r (Some d)) (set used r true) (appended (lists_of links ends) r item)
        (laid_push_first links ends (lists_of links ends) h.0 r item lt inside free was)
        (marks_set ends used h.1 r (Some d)) h.2 (omega (arith, h.3, length-set ends r (Some d)))

    pub push_first_gives : get_or ends r None ≡ None
        → queue_of links (set ends r (Some (record { first = item; last = item })))
        ≡ with_list (queue_of links ends) r (list_at (lists_of links ends) r ++ item ∷ [])
    push_first_gives was =
        let d : Ends = record { first = item; last = item } in
        let l = laid_lists links (set ends r (Some d)) (appended (lists_of links ends) r item)
        (laid_push_first links ends (lists_of links ends) h.0 r item lt inside free was) in
        λ j. record { items = length links; lists = l j }

  -- ---- the first item is taken out

  module _ (r : ℕ) (lt : r < length ends) (e : Ends) (was : get_or ends r None ≡ Some e) where
    pub pop_last_holds : e.first ≡ e.last → Holds links (set ends r None) (set used r false)
    pop_last_holds is =
        holds links (set ends r None) (set used r false) (shortened (lists_of links ends) r)
        (laid_pop_last links ends (lists_of links ends) h.0 r lt e was is)
        (marks_set ends used h.1 r None) h.2 (omega (arith, h.3, length-set ends r None))

    pub pop_last_gives : e.first ≡ e.last → queue_of links (set ends r None) ≡ with_list (queue_of links ends) r (drop 1 (list_at (lists_of links ends) r))
    pop_last_gives is =
        let l = laid_lists links (set ends r None) (shortened (lists_of links ends) r) (laid_pop_last links ends (lists_of links ends) h.0 r lt e was is) in
        λ j. record { items = length links; lists = l j }

    pub has_link : e.first ≢ e.last → (x : ℕ) × (get_or links e.first None ≡ Some x)
    has_link apart = linked links ends (lists_of links ends) h.0 r lt e was apart

    pub pop_more_holds : (second : ℕ) → get_or links e.first None ≡ Some second
        → Holds (set links e.first None) (set (set ends r None) r (Some (record { first = second; last = e.last }))) used
    pop_more_holds second to =
        let d : Ends = record { first = second; last = e.last } in
        subst (λ (es : AllEnds). Holds (set links e.first None) es used) (sym (set-set ends r None (Some d)))
        (holds (set links e.first None) (set ends r (Some d)) used (shortened (lists_of links ends) r)
        (laid_pop_more links ends (lists_of links ends) h.0 r lt e was second to)
        (marks_stay ends used h.1 r (Some d) lt (ap is_some was))
        (omega (arith, h.2, length-set links e.first None)) (omega (arith, h.3, length-set ends r (Some d))))

    pub pop_more_gives : (second : ℕ) → get_or links e.first None ≡ Some second
        → queue_of (set links e.first None) (set (set ends r None) r (Some (record { first = second; last = e.last })))
        ≡ with_list (queue_of links ends) r (drop 1 (list_at (lists_of links ends) r))
    pop_more_gives second to =
        let d : Ends = record { first = second; last = e.last } in
        let n = length-set links e.first None in
        let l = laid_lists (set links e.first None) (set ends r (Some d)) (shortened (lists_of links ends) r)
        (laid_pop_more links ends (lists_of links ends) h.0 r lt e was second to) in
        ap (queue_of (set links e.first None)) (set-set ends r None (Some d)) ∙ (λ j. record { items = n j; lists = l j })

-- ---- a new queue

pub new_holds : (items ranks : ℕ) → items ≤ 2 ^ 24 → ranks ≤ 2 ^ 24 → Holds (no_links items) (no_ends ranks) (replicate ranks false)
new_holds items ranks a b =
    holds (no_links items) (no_ends ranks) (replicate ranks false) (no_items ranks) (laid_empty items ranks) (no_marks ranks)
    (omega (arith, length-replicate {A = Option ℕ} items None)) (omega (arith, length-replicate {A = Option Ends} ranks None))

pub new_gives : (items ranks : ℕ) → queue_of (no_links items) (no_ends ranks) ≡ empty_queue items ranks
new_gives items ranks =
    let n = length-replicate {A = Option ℕ} items None in
    let l = laid_lists (no_links items) (no_ends ranks) (no_items ranks) (laid_empty items ranks) in
    λ j. record { items = n j; lists = l j }
