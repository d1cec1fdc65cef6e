-- A finished pixel is taken out, and a rank that ran empty is closed.
use Rattle.std.proofs.Common.{◌≡◌, ℕ, zero, suc, ◌+◌, ◌-◌, ◌<◌, ◌≤◌, List, [], ◌∷◌, length, set, slice_index, Contains, Option, Some, None, MatchOption, ℤ}
use Rattle.std.proofs.Common.{inl, inr, refl, sym, subst, ap, ◌∙◌, ⊎_elim, arith, get_or-set_same, get_or-set_other, get_or, drop}
use Rattle.std.specs.List.{slice_get}
use Rattle.std.proofs.lemmas.Bool.{cases_eq, cases_lt}
use Rattle.comp_tree.specs.Forest.{no_node, ComesEarlier}
use Rattle.level_queue.specs.Queue.{Queue, with_list, StandsOnce, IsEmpty, IsHighestRank, IsFront}
use Rattle.strip_flood.proofs.Adapting.{IsPopped, popped_lists}
use Rattle.strip_flood.specs.Flood.{Ground, FloodState, state_with, list_at, direction_count, rank_of, cursor_of, IsInQueue, IsEarliestKept, IsOpen, IsRanked}
use Rattle.strip_flood.specs.Flood.{IsKeptAt, IsFair, IsBusyBut, IsTurning, IsTop, IsAtFront}
use Rattle.strip_flood.proofs.Flow.{item_read}
use Rattle.strip_flood.proofs.Stepping.{High, not_none, kept_there, none_kept, hang_fair, end_fair, under_fair, keep_fair}

set_set : (xs : List ℕ) (i a b : ℕ) → set (set xs i a) i b ≡ set xs i b
set_set [] i a b = refl
set_set (x ∷ xs) zero a b = refl
set_set (x ∷ xs) (suc i) a b = ap (λ ys. x ∷ ys) (set_set xs i a b)

pub contains_some : (xs : List ℕ) (x : ℕ) → Contains xs x → xs ≡ [] → ⊥
contains_some xs x c e = let l : c.0 < length xs = c.1 in let z : length xs ≡ 0 = ap length e in omega arith

front_same : (xs : List ℕ) (x y : ℕ) (rest more : List ℕ) → xs ≡ x ∷ rest → xs ≡ y ∷ more → x ≡ y
front_same xs x y rest more a b = cc

-- what was taken out is the front
pub popped_front : (result : Option ℕ) (A : Type 0) (old new : List (List ℕ)) (r i : ℕ) → (A → list_at old r ≡ [])
    → MatchOption result A (λ x. IsPopped old r x new) → IsFront old r i → IsPopped old r i new
popped_front None A old new r i no_node m f = let e : list_at old r ≡ [] = no_node m in let e2 : list_at old r ≡ i ∷ f.rest = f.front in absurd (cc)
popped_front (Some x) A old new r i no_node m f = subst (λ y. IsPopped old r y new) (front_same (list_at old r) x i m.rest f.rest m.front f.front) m

pub front_popped : (q new : Queue) (r i : ℕ) (result : Option ℕ) → StandsOnce q → result ≡ slice_get (list_at q.lists r) 0
    → new ≡ with_list q r (drop 1 (list_at q.lists r)) → IsFront q.lists r i → IsPopped q.lists r i new.lists
front_popped q new r i result once first rest front = popped_front result ((list_at q.lists r ≡ []) × (new.lists ≡ q.lists)) q.lists new.lists r i (λ a. a.0)
    (popped_lists q r new result once first rest) front

-- the front of a rank is a queued pixel
pub front_queued : (g : Ground) (s : FloodState) → IsFair g s → (r i : ℕ) → IsFront s.lists r i → IsInQueue g s.cursors (g.first + i)
front_queued g s fair r i front = (fair.listed.to r i (subst (λ l. Contains l i) (sym front.front) (0, omega arith, refl))).1

pub front_rank : (g : Ground) (s : FloodState) → IsFair g s → (r i : ℕ) → IsFront s.lists r i → rank_of g (g.first + i) ≡ r
front_rank g s fair r i front = (fair.listed.to r i (subst (λ l. Contains l i) (sym front.front) (0, omega arith, refl))).0

-- its place is the item
pub front_place : (lists : List (List ℕ)) (first r i : ℕ) → IsFront lists r i → IsFront lists r (first + i - first)
front_place lists first r i front = subst (λ j. IsFront lists r j) (let e : i ≡ first + i - first = omega arith in e) front

-- what was read of the kept pixels
pub earliest_read : (g : Ground) (s : FloodState) → IsFair g s → (r p v : ℕ) → IsAtFront g s r p → v ≡ get_or s.earliest r v → slice_index s.earliest r ≡ v
earliest_read g s fair r p v front e = item_read s.earliest r v
    (let a : rank_of g p ≡ r = front.rank in let b : rank_of g p < g.size = fair.seen p front.top.queued.inside front.top.queued.low in
    let l : length s.earliest ≡ g.size = fair.earliest_length in omega arith) e

module _ (g : Ground) (s : FloodState) (ok : IsRanked g) (turning : IsTurning g s) (r p : ℕ) (new : List (List ℕ)) (top : IsTop g s p) (rank : rank_of g p ≡ r)
    (popped : IsPopped s.lists r (p - g.first) new) (turned : cursor_of g s.cursors p ≡ direction_count g.connect + 1) where
  fair : IsFair g s
  fair = turning.fair

  pub retire_low : r < g.size
  retire_low = let l : rank_of g p < g.size = turning.fair.seen p top.queued.inside top.queued.low in omega arith

  -- no pixel of its rank was kept
  pub retire_keep : slice_index s.earliest r ≡ no_node → IsFair g (state_with new (set s.cursors (p - g.first) 10) (set s.earliest r p) s.links)
  retire_keep vacant = subst (λ l. IsFair g (state_with l (set s.cursors (p - g.first) 10) (set s.earliest r p) s.links)) (sym popped.left)
      (keep_fair g s ok turning.fair r p popped.rest top.queued rank popped.front popped.once turned vacant)

  -- an earlier pixel of its rank was kept
  pub retire_under : (slice_index s.earliest r ≡ no_node → ⊥) → slice_index s.earliest r < p
      → IsFair g (state_with new (set s.cursors (p - g.first) 10) s.earliest (set s.links (p - g.first) (slice_index s.earliest r)))
  retire_under some less =
      subst (λ l. IsFair g (state_with l (set s.cursors (p - g.first) 10) s.earliest (set s.links (p - g.first) (slice_index s.earliest r)))) (sym popped.left)
      (under_fair g s ok turning.fair r p popped.rest top.queued rank popped.front popped.once turned (slice_index s.earliest r) refl some
      (let k : IsKeptAt g s.cursors r (slice_index s.earliest r) = turning.fair.kept r retire_low some in let l : r < g.size =
      retire_low in let kr : rank_of g (slice_index s.earliest r) ≡ r = k.rank in
      ok.same (slice_index s.earliest r) p k.inside top.queued.inside (omega arith) (omega arith) less))

  -- a later pixel of its rank was kept
  pub retire_over : (slice_index s.earliest r ≡ no_node → ⊥) → p ≤ slice_index s.earliest r
      → IsFair g (state_with new (set s.cursors (p - g.first) 10) (set s.earliest r p) (set s.links (slice_index s.earliest r - g.first) p))
  retire_over some le =
      subst (λ l. IsFair g (state_with l (set s.cursors (p - g.first) 10) (set s.earliest r p) (set s.links (slice_index s.earliest r - g.first) p)))
      (sym popped.left)
      (subst (λ e. IsFair g (state_with (set s.lists r popped.rest) (set s.cursors (p - g.first) 10) e (set s.links (slice_index s.earliest r - g.first) p)))
      (set_set s.earliest r no_node p)
      (keep_fair g hung ok hung_fair r p popped.rest top.queued rank popped.front popped.once turned
      (get_or-set_same s.earliest r no_node 0 (let l : r < g.size = retire_low in let e : length s.earliest ≡ g.size =
      turning.fair.earliest_length in omega arith)))) where
        e : ℕ
        e = slice_index s.earliest r

        k : IsKeptAt g s.cursors r e
        k = turning.fair.kept r retire_low some

        hung : FloodState
        hung = state_with s.lists s.cursors (set s.earliest r no_node) (set s.links (e - g.first) p)

        earlier : ComesEarlier g.values p e
        earlier = let kr : rank_of g e ≡ r = k.rank in let kf : cursor_of g s.cursors e ≡ 10 = k.finished in let l : r < g.size = retire_low in
            let ne : p ≡ e → ⊥ = (λ (same : p ≡ e). let x : cursor_of g s.cursors p ≡ 10 = ap (λ y. cursor_of g s.cursors y) same ∙ k.finished in
            let h : cursor_of g s.cursors p < 10 = top.queued.high in omega arith) in
            ok.same p e top.queued.inside k.inside (omega arith) (omega arith) (omega arith)

        hung_fair : IsFair g hung
        hung_fair = hang_fair g s ok turning.fair r e p retire_low refl some top.queued earlier
            (λ h x o ne he hx. record {
              within = top.queued.inside;
              value =
                  ok.up h e p k.inside top.queued.inside (let kr : rank_of g e ≡ r = k.rank in omega arith) (let l : r < g.size =
                  retire_low in omega arith) he.value;
            })

  -- the lists of the other ranks are as they were
  list_left : (t : ℕ) → (t ≡ r → ⊥) → list_at new t ≡ list_at s.lists t
  list_left t ne = ap (λ l. list_at l t) popped.left ∙ get_or-set_other s.lists r t popped.rest [] ne

  pub retire_above : (t : ℕ) → r < t → list_at new t ≡ []
  retire_above t lt = list_left t (λ (e : t ≡ r). omega arith) ∙ top.above t (let e : rank_of g p ≡ r = rank in omega arith)

  pub retire_busy : (cursors earliest links : List ℕ) → ((t : ℕ) → (t ≡ r → ⊥) → slice_index earliest t ≡ slice_index s.earliest t)
      → IsBusyBut g (state_with new cursors earliest links) r
  retire_busy cursors earliest links same = record {
    busy = λ t lt ne some empty. turning.busy t lt (λ e. some (same t ne ∙ e)) (sym (list_left t ne) ∙ empty);
  }

  -- where p is kept, no other rank's kept pixel changes
  pub retire_other : (t : ℕ) → (t ≡ r → ⊥) → slice_index (set s.earliest r p) t ≡ slice_index s.earliest t
  retire_other t ne = get_or-set_other s.earliest r t p 0 ne

  pub retire_kept : slice_index (set s.earliest r p) r ≡ no_node → ⊥
  retire_kept e = not_none g ok p top.queued.inside (sym (get_or-set_same s.earliest r p 0
      (let l : r < g.size = retire_low in let n : length s.earliest ≡ g.size = turning.fair.earliest_length in omega arith)) ∙ e)

-- the rank has queued pixels yet
pub still_turning : (g : Ground) (s : FloodState) (r x : ℕ) → IsFair g s → IsBusyBut g s r → IsFront s.lists r x → IsTurning g s
still_turning g s r x fair busy front = record { fair = fair; busy = still } where
  still : (t : ℕ) → t < g.size → (slice_index s.earliest t ≡ no_node → ⊥) → list_at s.lists t ≡ [] → ⊥
  still t l some e = ⊎_elim
      (λ (same : t ≡ r). let n : x ∷ front.rest ≡ [] = sym front.front ∙ ap (λ u. list_at s.lists u) (sym same) ∙ e in let z : suc (length front.rest) ≡ 0 =
      ap length n in omega arith)
      (λ (ne : t ≡ r → ⊥). busy.busy t l ne some e)
      (cases_eq t r)

module _ (g : Ground) (s : FloodState) (ok : IsRanked g) (fair : IsFair g s) (r : ℕ) (busy : IsBusyBut g s r) (low : r < g.size)
    (some : slice_index s.earliest r ≡ no_node → ⊥) (empty : list_at s.lists r ≡ []) where
  abbrev e : ℕ
  e = slice_index s.earliest r

  -- a queued pixel's rank has a list
  queued_list : (x : ℕ) → IsInQueue g s.cursors x → list_at s.lists (rank_of g x) ≡ [] → ⊥
  queued_list x q = contains_some (list_at s.lists (rank_of g x)) (x - g.first) (fair.listed.from x q)

  -- and so has a kept pixel's, if that is not e
  kept_list : (x : ℕ) → IsEarliestKept g s.earliest x → (x ≡ e → ⊥) → list_at s.lists (rank_of g x) ≡ [] → ⊥
  kept_list x k ne = busy.busy (rank_of g x) k.ranked (λ same. ne (sym k.kept ∙ ap (λ t. slice_index s.earliest t) same))
      (λ n. not_none g ok x k.inside (sym k.kept ∙ n))

  still_busy : (links : List ℕ) → (t : ℕ) → t < g.size → (slice_index (set s.earliest r no_node) t ≡ no_node → ⊥) → list_at s.lists t ≡ [] → ⊥
  still_busy links t lt some_t = let o : (t ≡ r → ⊥) × (slice_index (set s.earliest r no_node) t ≡ slice_index s.earliest t) =
      none_kept g s ok fair r e low refl some t lt some_t in
      busy.busy t lt o.0 (λ n. some_t (o.1 ∙ n))

  -- no pixel is queued: the component is done
  pub close_end : IsEmpty s.lists → IsTurning g (state_with s.lists s.cursors (set s.earliest r no_node) s.links)
  close_end all = record { fair = end_fair g s ok fair r e low refl some alone; busy = still_busy s.links } where
    alone : (x : ℕ) → IsOpen g s.cursors s.earliest x → x ≡ e
    alone x (inl q) = absurd (queued_list x q (all.empty (rank_of g x)))
    alone x (inr k) = ⊎_elim (λ (same : x ≡ e). same) (λ (ne : x ≡ e → ⊥). absurd (kept_list x k ne (all.empty (rank_of g x)))) (cases_eq x e)

  -- it is hung under the front of the highest rank
  pub close_hang : (t i : ℕ) → IsHighestRank s.lists t → IsFront s.lists t i → ((u : ℕ) → r < u → list_at s.lists u ≡ [])
      → IsTurning g (state_with s.lists s.cursors (set s.earliest r no_node) (set s.links (e - g.first) (g.first + i)))
  close_hang t i highest front above = record {
    fair = hang_fair g s ok fair r e (g.first + i) low refl some it.1 earlier between;
    busy = still_busy (set s.links (e - g.first) (g.first + i));
  } where
    it : (rank_of g (g.first + i) ≡ t) × IsInQueue g s.cursors (g.first + i)
    it = fair.listed.to t i (subst (λ l. Contains l i) (sym front.front) (0, omega arith, refl))

    k : IsKeptAt g s.cursors r e
    k = kept_there g s ok fair r e low refl some

    less : t < r
    less = ⊎_elim (λ (l : t < r). l) (λ (m : r ≤ t). absurd (⊎_elim
        (λ (same : t ≡ r). highest.some (ap (λ u. list_at s.lists u) same ∙ empty))
        (λ (ne : t ≡ r → ⊥). highest.some (above t (omega arith)))
        (cases_eq t r))) (cases_lt t r)

    earlier : ComesEarlier g.values (g.first + i) e
    earlier = let a : rank_of g (g.first + i) ≡ t = it.0 in let b : rank_of g e ≡ r = k.rank in let l : t < r = less in
        ok.less (g.first + i) e it.1.inside k.inside (omega arith) (omega arith)

    at_most : (x : ℕ) → (list_at s.lists (rank_of g x) ≡ [] → ⊥) → rank_of g x ≤ t
    at_most x has = ⊎_elim (λ (l : t < rank_of g x). absurd (has (highest.above (rank_of g x) l))) (λ (m : rank_of g x ≤ t). m) (cases_lt t (rank_of g x))

    below : (x : ℕ) → IsOpen g s.cursors s.earliest x → (x ≡ e → ⊥) → rank_of g x ≤ t
    below x (inl q) ne = at_most x (queued_list x q)
    below x (inr q) ne = at_most x (kept_list x q ne)

    between : (h : ℤ) (x : ℕ) → IsOpen g s.cursors s.earliest x → (x ≡ e → ⊥) → High g h e → High g h x → High g h (g.first + i)
    between h x o ne he hx = record {
      within = it.1.inside;
      value = ok.up h x (g.first + i) hx.within it.1.inside (let a : rank_of g (g.first + i) ≡ t = it.0 in let l : rank_of g x ≤ t =
          below x o ne in omega arith)
          (let a : rank_of g (g.first + i) ≡ t = it.0 in let l : t < r = less in omega arith) hx.value;
    }
