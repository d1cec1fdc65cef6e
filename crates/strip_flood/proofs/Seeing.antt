-- A look from the pixel that the flooding is at.
use Rattle.std.proofs.Common.{◌≡◌, ℕ, ◌+◌, ◌-◌, ◌<◌, ◌≤◌, List, [], ◌∷◌, ◌++◌, length, set, slice_index, is_some, ◌&&◌, true, ℤ, ◌⊎◌, inl, inr, refl, sym}
use Rattle.std.proofs.Common.{subst, ap, ◌∙◌, ⊎_elim, arith, length-append}
use Rattle.std.proofs.lemmas.Bool.{cases_eq, cases_lt, and_from, and_parts}
use Rattle.comp_tree.specs.Joined.{Joined}
use Rattle.comp_tree.specs.Forest.{no_node, value_at, ReachesLevel}
use Rattle.comp_tree.specs.Defined.{HasValue}
use Rattle.comp_tree.specs.Grid.{are_neighbours}
use Rattle.level_queue.specs.Queue.{IsEmpty, IsFront}
use Rattle.strip_flood.proofs.Adapting.{IsNowhere}
use Rattle.strip_flood.specs.Flood.{Ground, FloodState, state_with, list_at, direction_count, cell, direction, IsOf, rank_of, cursor_of, IsInQueue, IsOpen}
use Rattle.strip_flood.specs.Flood.{IsRanked, IsFair, IsTurning, IsTop, IsAtFront, IsNeighbour, HasCell}
use Rattle.comp_tree.proofs.Exported.{joined_trans, joined_pair, at_least_cases, adjacent_from}
use Rattle.strip_flood.proofs.Flow.{IsSeen, IsAround, cursor_new, queued_new, queued_old}
use Rattle.strip_flood.proofs.Directions.{inner_near, near_cell}
use Rattle.strip_flood.proofs.Listing.{list_new, list_old}
use Rattle.strip_flood.proofs.Stepping.{High, Adj, not_none, push_fair, look_fair}
use Rattle.strip_flood.proofs.Retiring.{contains_some}

pub below : (g : Ground) (n r : ℕ) → (rank_of g n ≡ r) × (r < g.size) → rank_of g n < g.size
below g n r e = subst (λ t. t < g.size) (sym e.0) e.1

module _ (g : Ground) (s : FloodState) (ok : IsRanked g) (turning : IsTurning g s) where
  -- an open pixel's rank has queued ones
  pub open_list : (x : ℕ) → IsOpen g s.cursors s.earliest x → list_at s.lists (rank_of g x) ≡ [] → ⊥
  open_list x (inl q) = contains_some (list_at s.lists (rank_of g x)) (x - g.first) (turning.fair.listed.from x q)
  open_list x (inr k) = turning.busy (rank_of g x) k.ranked (λ n. not_none g ok x k.inside (sym k.kept ∙ n))

  -- a pixel that was not seen is in no list
  pub unseen_nowhere : (n : ℕ) → IsOf g n → cursor_of g s.cursors n ≡ 0 → IsNowhere s.lists (n - g.first)
  unseen_nowhere n w z = record {
    nowhere = λ r c. let q : IsInQueue g s.cursors (g.first + (n - g.first)) = (turning.fair.listed.to r (n - g.first) c).1 in
        let a : g.first ≤ n = w.low in let at : g.first + (n - g.first) ≡ n = omega arith in
        let l : 0 < cursor_of g s.cursors n = subst (λ x. 0 < cursor_of g s.cursors x) at q.low in omega arith;
  }

  pushed_list : (xs : List ℕ) (x : ℕ) → xs ++ x ∷ [] ≡ [] → ⊥
  pushed_list xs x e = let l : length (xs ++ x ∷ []) ≡ 0 = ap length e in let m : length (xs ++ x ∷ []) ≡ length xs + 1 =
      length-append xs (x ∷ []) in omega arith

  push_busy : (r n : ℕ) → r < g.size → (t : ℕ) → t < g.size → (slice_index s.earliest t ≡ no_node → ⊥)
      → list_at (set s.lists r (list_at s.lists r ++ n ∷ [])) t ≡ [] → ⊥
  push_busy r n low t lt some e = ⊎_elim
      (λ (same : t ≡ r). pushed_list (list_at s.lists r) n
      (sym (ap (λ u. list_at (set s.lists r (list_at s.lists r ++ n ∷ [])) u) same
      ∙ list_new s.lists r (list_at s.lists r ++ n ∷ []) (let l : length s.lists ≡ g.size = turning.fair.lists_length in omega arith)) ∙ e))
      (λ (ne : t ≡ r → ⊥). turning.busy t lt some (sym (list_old s.lists r (list_at s.lists r ++ n ∷ []) t ne) ∙ e))
      (cases_eq t r)

  -- a component is begun
  pub start_turning : (p : ℕ) → IsOf g p → rank_of g p < g.size → cursor_of g s.cursors p ≡ 0 → IsEmpty s.lists
      → IsTurning g (state_with (set s.lists (rank_of g p) (list_at s.lists (rank_of g p) ++ (p - g.first) ∷ []))
      (set s.cursors (p - g.first) 1) s.earliest s.links)
  start_turning p w low z all = record {
    fair = push_fair g s ok turning.fair p (rank_of g p) w refl low z (λ h x hx hp o. absurd (open_list x o (all.empty (rank_of g x))));
    busy = push_busy (rank_of g p) (p - g.first) low;
  }

  pub start_pushed : (p r : ℕ) → IsOf g p → (rank_of g p ≡ r) × (r < g.size) → cursor_of g s.cursors p ≡ 0 → IsEmpty s.lists
      → (lists : List (List ℕ)) → lists ≡ set s.lists r (list_at s.lists r ++ (p - g.first) ∷ [])
      → IsTurning g (state_with lists (set s.cursors (p - g.first) 1) s.earliest s.links)
  start_pushed p r w rank z all lists e = subst (λ l. IsTurning g (state_with l (set s.cursors (p - g.first) 1) s.earliest s.links)) (sym e)
      (subst (λ t. IsTurning g (state_with (set s.lists t (list_at s.lists t ++ (p - g.first) ∷ [])) (set s.cursors (p - g.first) 1) s.earliest s.links)) rank.0
      (start_turning p w (below g p r rank) z all))

  module _ (p : ℕ) (top : IsTop g s p) where
    -- no open pixel is higher
    open_below : (x : ℕ) → IsOpen g s.cursors s.earliest x → rank_of g x ≤ rank_of g p
    open_below x o = ⊎_elim (λ (l : rank_of g p < rank_of g x). absurd (open_list x o (top.above (rank_of g x) l))) (λ (m : rank_of g x ≤ rank_of g p). m)
        (cases_lt (rank_of g p) (rank_of g x))

    ranked : rank_of g p < g.size
    ranked = turning.fair.seen p top.queued.inside top.queued.low

    -- a neighbour that was not seen is queued
    pub see_turning : (n : ℕ) → IsOf g n → are_neighbours g.connect g.width p n ≡ true → rank_of g n < g.size → cursor_of g s.cursors n ≡ 0
        → IsTurning g (state_with (set s.lists (rank_of g n) (list_at s.lists (rank_of g n) ++ (n - g.first) ∷ []))
        (set s.cursors (n - g.first) 1) s.earliest s.links)
    see_turning n w near low z = record {
      fair = push_fair g s ok turning.fair n (rank_of g n) w refl low z joins;
      busy = push_busy (rank_of g n) (n - g.first) low;
    } where
      inner : Adj g p n
      inner = record {
        adjacent = and_from (is_some (value_at g.values p) && is_some (value_at g.values n)) (are_neighbours g.connect g.width p n)
            (and_from (is_some (value_at g.values p)) (is_some (value_at g.values n)) (ok.value p top.queued.inside ranked) (ok.value n w low)) near;
        one = top.queued.inside;
        other = w;
      }

      joins : (h : ℤ) (x : ℕ) → High g h x → High g h n → IsOpen g s.cursors s.earliest x → Joined (High g h) (Adj g) x n
      joins h x hx hn o = by_p (at_least_cases h (value_at g.values p)) where
        through : High g h p → Joined (High g h) (Adj g) x n
        through hp = joined_trans ((turning.fair.joining.sound h).opens x p hx hp o (inl top.queued)) (joined_pair p n hp hn (inl inner))

        by_p : ReachesLevel h (value_at g.values p) ⊎ (ReachesLevel h (value_at g.values p) → ⊥) → Joined (High g h) (Adj g) x n
        by_p (inl l) = through (record { within = top.queued.inside; value = l })
        by_p (inr m) = absurd (m (ok.up h x p hx.within top.queued.inside (open_below x o) ranked hx.value))

    pub see_pushed : (n r : ℕ) → IsOf g n → are_neighbours g.connect g.width p n ≡ true → (rank_of g n ≡ r) × (r < g.size) → cursor_of g s.cursors n ≡ 0
        → (lists : List (List ℕ)) → lists ≡ set s.lists r (list_at s.lists r ++ (n - g.first) ∷ [])
        → IsTurning g (state_with lists (set s.cursors (n - g.first) 1) s.earliest s.links)
    see_pushed n r w near rank z lists e = subst (λ l. IsTurning g (state_with l (set s.cursors (n - g.first) 1) s.earliest s.links)) (sym e)
        (subst (λ t. IsTurning g (state_with (set s.lists t (list_at s.lists t ++ (n - g.first) ∷ [])) (set s.cursors (n - g.first) 1) s.earliest s.links))
        rank.0
        (see_turning n w near (below g n r rank) z))

    -- looking at n is counted
    pub see_around : (k n old new : ℕ) → IsNeighbour g.connect g.width g.first (length g.ranks) p k n → rank_of g n < g.size → new ≡ old + 1
        → IsAround g p k old new
    see_around k n old new next low e = record {
      is = inr (
        e,
        (
          n,
          (
            record {
              adjacent = adjacent_from g.values g.width g.connect p n (ok.value p top.queued.inside ranked) (ok.value n next.inside low) next.near;
              one = top.queued.inside;
              other = next.inside;
            },
            next.turned,
          ),
        ),
      );
    }

    -- what p has in direction k is n
    is_n : (k n y : ℕ) → IsNeighbour g.connect g.width g.first (length g.ranks) p k n → Adj g p y → direction g.connect g.width p y ≡ k → y ≡ n
    is_n k n y next i d = next.only y i.other (inner_near g.values g.width g.connect g.first (length g.ranks) p y i) d

    -- n has no value, so p is not adjacent to it
    pub none_undefined : (k n : ℕ) → IsNeighbour g.connect g.width g.first (length g.ranks) p k n → g.size ≤ rank_of g n → (y : ℕ) → Adj g p y
        → direction g.connect g.width p y ≡ k → ⊥
    none_undefined k n next high y i d = let e : y ≡ n = is_n k n y next i d in
        let both : (is_some (value_at g.values p) && is_some (value_at g.values y) ≡ true) × (are_neighbours g.connect g.width p y ≡ true) =
        and_parts (is_some (value_at g.values p) && is_some (value_at g.values y)) (are_neighbours g.connect g.width p y) i.adjacent in
        let there : HasValue (value_at g.values y) = (and_parts (is_some (value_at g.values p)) (is_some (value_at g.values y)) both.0).1 in
        let low : rank_of g y < g.size = ok.there y i.other there in
        let low_n : rank_of g n < g.size = subst (λ x. rank_of g x < g.size) e low in omega arith

    -- the strip has no pixel in this direction
    pub none_there : (k : ℕ) → (HasCell g.width g.first (length g.ranks) p (cell g.connect k) → ⊥) → (y : ℕ) → Adj g p y
        → direction g.connect g.width p y ≡ k → ⊥
    none_there k none y i d = none (subst (λ j. HasCell g.width g.first (length g.ranks) p (cell g.connect j)) d
        (near_cell g.connect g.width g.first (length g.ranks) p y ok.wide i.other (inner_near g.values g.width g.connect g.first (length g.ranks) p y i)))

    -- where there is no adjacency, all were seen
    pub seen_none : (k : ℕ) → ((y : ℕ) → Adj g p y → direction g.connect g.width p y ≡ k → ⊥) → IsSeen g s.cursors p k
    seen_none k none = record { seen = λ y i d. absurd (none y i d) }

    pub seen_already : (k n : ℕ) → IsNeighbour g.connect g.width g.first (length g.ranks) p k n → 0 < cursor_of g s.cursors n → IsSeen g s.cursors p k
    seen_already k n next l = record { seen = λ y i d. subst (λ x. 0 < cursor_of g s.cursors x) (sym (is_n k n y next i d)) l }

    pub seen_now : (k n : ℕ) → IsNeighbour g.connect g.width g.first (length g.ranks) p k n → IsSeen g (set s.cursors (n - g.first) 1) p k
    seen_now k n next = record {
      seen = λ y i d. subst (λ x. 0 < cursor_of g (set s.cursors (n - g.first) 1) x) (sym (is_n k n y next i d))
          (subst (λ c. 0 < c) (sym (cursor_new g s.cursors turning.fair.cursors_length n 1 next.inside)) (omega arith));
    }

  -- the cursor goes on
  pub look_turning : (p k v : ℕ) → IsInQueue g s.cursors p → cursor_of g s.cursors p ≡ k + 1 → v ≡ k + 2 → k < direction_count g.connect
      → IsSeen g s.cursors p k
      → IsTurning g (state_with s.lists (set s.cursors (p - g.first) v) s.earliest s.links)
  look_turning p k v queued at e more seen = record {
    fair = look_fair g s ok turning.fair p v queued (omega arith) (omega arith) (λ y i d. seen.seen y i (omega arith));
    busy = turning.busy;
  }

-- a pixel that is no higher is queued behind p, which stays at the front
push_front : (g : Ground) (s : FloodState) → IsFair g s → (r p n t : ℕ) → IsAtFront g s r p → IsOf g n → cursor_of g s.cursors n ≡ 0 → rank_of g n ≡ t → t ≤ r
    → IsAtFront g (state_with (set s.lists t (list_at s.lists t ++ (n - g.first) ∷ [])) (set s.cursors (n - g.first) 1) s.earliest s.links) r p
push_front g s fair r p n t front w z at le = record { top = record { queued = queued; above = above }; rank = front.rank; front = behind } where
  ne : p ≡ n → ⊥
  ne e = let l : 0 < cursor_of g s.cursors p = front.top.queued.low in let z2 : cursor_of g s.cursors p ≡ 0 = ap (λ x. cursor_of g s.cursors x) e ∙ z in
      omega arith

  queued : IsInQueue g (set s.cursors (n - g.first) 1) p
  queued = queued_old g s.cursors fair.cursors_length n 1 w p ne front.top.queued

  above : (u : ℕ) → rank_of g p < u → list_at (set s.lists t (list_at s.lists t ++ (n - g.first) ∷ [])) u ≡ []
  above u l = list_old s.lists t (list_at s.lists t ++ (n - g.first) ∷ []) u (λ e. let a : rank_of g p ≡ r = front.rank in omega arith) ∙ front.top.above u l

  low : r < g.size
  low = let a : rank_of g p ≡ r = front.rank in let b : rank_of g p < g.size = fair.seen p front.top.queued.inside front.top.queued.low in omega arith

  behind : IsFront (set s.lists t (list_at s.lists t ++ (n - g.first) ∷ [])) r (p - g.first)
  behind = ⊎_elim
      (λ (e : r ≡ t). record {
        rest = front.front.rest ++ (n - g.first) ∷ [];
        front = ap (λ u. list_at (set s.lists t (list_at s.lists t ++ (n - g.first) ∷ [])) u) e
            ∙ list_new s.lists t (list_at s.lists t ++ (n - g.first) ∷ []) (let l : length s.lists ≡ g.size = fair.lists_length in let m : r < g.size =
            low in omega arith)
            ∙ ap (λ xs. xs ++ (n - g.first) ∷ []) (ap (λ u. list_at s.lists u) (sym e) ∙ front.front.front);
      })
      (λ (other : r ≡ t → ⊥). record {
        rest = front.front.rest;
        front =
            list_old s.lists t (list_at s.lists t ++ (n - g.first) ∷ []) r other ∙ front.front.front;
      })
      (cases_eq r t)

pub pushed_front : (g : Ground) (s : FloodState) → IsFair g s → (r p n t : ℕ) → IsAtFront g s r p → IsOf g n → cursor_of g s.cursors n ≡ 0 → rank_of g n ≡ t
    → t ≤ r
    → (lists : List (List ℕ)) → lists ≡ set s.lists t (list_at s.lists t ++ (n - g.first) ∷ [])
    → IsAtFront g (state_with lists (set s.cursors (n - g.first) 1) s.earliest s.links) r p
pushed_front g s fair r p n t front w z at le lists e =
    subst (λ l. IsAtFront g (state_with l (set s.cursors (n - g.first) 1) s.earliest s.links) r p) (sym e) (push_front g s fair r p n t front w z at le)

-- the cursor of p goes on, and p stays at the front
pub look_front : (g : Ground) (s : FloodState) → IsFair g s → (r p v : ℕ) → IsAtFront g s r p → 0 < v → v < 10
    → IsAtFront g (state_with s.lists (set s.cursors (p - g.first) v) s.earliest s.links) r p
look_front g s fair r p v front low high = record {
  top = record { queued = queued_new g s.cursors fair.cursors_length p v front.top.queued.inside low high; above = front.top.above };
  rank = front.rank;
  front = front.front;
}
