-- One look of a pixel, whose cursor is written back later.
use Rattle.std.proofs.Common.{◌≡◌, ℕ, ◌+◌, ◌-◌, ◌<◌, ◌≤◌, List, [], ◌∷◌, ◌++◌, length, set, sym, subst, ap, ◌∙◌, ⊎_elim, arith, length-set}
use Rattle.std.proofs.lemmas.Bool.{cases_eq}
use Rattle.std.proofs.lemmas.List.{set_comm, set-set, set-get_or}
use Rattle.level_queue.specs.Queue.{IsFront}
use Rattle.strip_flood.specs.Flood.{Ground, FloodState, state_with, list_at, direction_count, IsOf, rank_of, cursor_of, IsInQueue, IsRanked, IsFair}
use Rattle.strip_flood.specs.Flood.{IsTurning, IsAtFront, IsNeighbour, IsStep, work}
use Rattle.strip_flood.proofs.Flow.{IsSeen, IsAround, ends_small, cursor_new, cursor_old, queued_new, queued_old}
use Rattle.strip_flood.proofs.Listing.{list_new, list_old}
use Rattle.strip_flood.proofs.Seeing.{below, see_pushed, see_around, seen_now, look_turning, look_front, pushed_front}
use Rattle.strip_flood.proofs.Retiring.{front_queued, front_rank, front_place}
use Rattle.strip_flood.proofs.Counting.{step_push, step_look, step_less, step_trans}

-- what a look leaves
pub record IsAfter (g : Ground) (old new : FloodState) (queued_old queued_new looked_old looked_new : ℕ) : Type 0 where
  pub turning : IsTurning g new
  pub step : IsStep g old.cursors new.cursors queued_old queued_new looked_old looked_new
  pub less : work new.cursors < work old.cursors

-- the cursor of p goes on, past what was seen
goes_on : (g : Ground) (s : FloodState) → IsRanked g → IsTurning g s → (p k v q l m : ℕ) → IsInQueue g s.cursors p → cursor_of g s.cursors p ≡ k + 1
    → v ≡ k + 2 → k < direction_count g.connect
    → IsSeen g s.cursors p k → IsAround g p k l m → IsAfter g s (state_with s.lists (set s.cursors (p - g.first) v) s.earliest s.links) q q l m
goes_on g s ok turning p k v q l m queued at e more seen around = record {
  turning = look_turning g s ok turning p k v queued at e more seen;
  step = step_look g s.cursors turning.fair.cursors_length p v queued.inside q k l m ok.wide at e around;
  less = step_less g s.cursors turning.fair.cursors_length p v queued.inside (omega arith)
      (let t : cursor_of g s.cursors p ≤ direction_count g.connect + 1 = turning.fair.turning p queued.inside queued.high in
      let b : cursor_of g s.cursors p < 10 = queued.high in omega arith);
}

-- the cursor of another pixel goes on
other_front : (g : Ground) (s : FloodState) → IsFair g s → (r n p v : ℕ) → IsOf g p → (n ≡ p → ⊥) → IsAtFront g s r n
    → IsAtFront g (state_with s.lists (set s.cursors (p - g.first) v) s.earliest s.links) r n
other_front g s fair r n p v inside ne front = record {
  top = record { queued = queued_old g s.cursors fair.cursors_length p v inside n ne front.top.queued; above = front.top.above };
  rank = front.rank;
  front = front.front;
}

-- a higher pixel is queued: it is the front of its rank
higher_front : (g : Ground) (s : FloodState) → IsFair g s → (r p n t : ℕ) → IsAtFront g s r p → IsOf g n → rank_of g n ≡ t → t < g.size → r < t
    → (lists : List (List ℕ)) → lists ≡ set s.lists t (list_at s.lists t ++ (n - g.first) ∷ [])
    → IsAtFront g (state_with lists (set s.cursors (n - g.first) 1) s.earliest s.links) t n
higher_front g s fair r p n t front w rank low more lists e =
    subst (λ l. IsAtFront g (state_with l (set s.cursors (n - g.first) 1) s.earliest s.links) t n) (sym e) (record {
      top = record {
        queued = queued_new g s.cursors fair.cursors_length n 1 w (omega arith) (omega arith);
        above = λ u l. list_old s.lists t (list_at s.lists t ++ (n - g.first) ∷ []) u (λ (same : u ≡ t). omega arith)
            ∙ front.top.above u (let a : rank_of g p ≡ r = front.rank in omega arith);
      };
      rank = rank;
      front = record {
        rest = [];
        front = list_new s.lists t (list_at s.lists t ++ (n - g.first) ∷ []) (let l : length s.lists ≡ g.size = fair.lists_length in omega arith)
            ∙ ap (λ xs. xs ++ (n - g.first) ∷ []) (front.top.above t (let a : rank_of g p ≡ r = front.rank in omega arith));
      };
    })

-- the first pixel of a component is queued
pub start_front : (g : Ground) (s : FloodState) → IsFair g s → (p t : ℕ) → IsOf g p → (rank_of g p ≡ t) × (t < g.size) → ((u : ℕ) → list_at s.lists u ≡ [])
    → (lists : List (List ℕ)) → lists ≡ set s.lists t (list_at s.lists t ++ (p - g.first) ∷ [])
    → IsAtFront g (state_with lists (set s.cursors (p - g.first) 1) s.earliest s.links) t p
start_front g s fair p t w rank empty lists e = subst (λ l. IsAtFront g (state_with l (set s.cursors (p - g.first) 1) s.earliest s.links) t p) (sym e) (record {
  top = record {
    queued = queued_new g s.cursors fair.cursors_length p 1 w (omega arith) (omega arith);
    above = λ u l. list_old s.lists t (list_at s.lists t ++ (p - g.first) ∷ []) u (λ (same : u ≡ t). let a : rank_of g p ≡ t = rank.0 in omega arith) ∙ empty u;
  };
  rank = rank.0;
  front = record {
    rest = [];
    front = list_new s.lists t (list_at s.lists t ++ (p - g.first) ∷ []) (let l : length s.lists ≡ g.size = fair.lists_length in let m : t < g.size =
        rank.1 in omega arith)
        ∙ ap (λ xs. xs ++ (p - g.first) ∷ []) (empty t);
  };
})

-- the front of a rank that no queued pixel is above
pub front_current : (g : Ground) (s : FloodState) → IsFair g s → (r i : ℕ) → ((t : ℕ) → r < t → list_at s.lists t ≡ []) → IsFront s.lists r i
    → IsAtFront g s r (g.first + i)
front_current g s fair r i above front = record {
  top = record {
    queued = front_queued g s fair r i front;
    above =
        λ t l. above t (let e : rank_of g (g.first + i) ≡ r = front_rank g s fair r i front in omega arith);
  };
  rank = front_rank g s fair r i front;
  front = front_place s.lists g.first r i front;
}

-- p looks around, and its cursor is c
module _ (g : Ground) (ok : IsRanked g) (lists : List (List ℕ)) (cursors earliest links : List ℕ) (r p c : ℕ) (first : 0 < c)
    (last : c ≤ direction_count g.connect)
    (turning : IsTurning g (state_with lists (set cursors (p - g.first) c) earliest links))
    (front : IsAtFront g (state_with lists (set cursors (p - g.first) c) earliest links) r p) where
  abbrev now : FloodState
  now = state_with lists (set cursors (p - g.first) c) earliest links

  long : length (set cursors (p - g.first) c) ≡ length g.ranks
  long = turning.fair.cursors_length

  pub stale_long : length cursors ≡ length g.ranks
  stale_long = sym (length-set cursors (p - g.first) c) ∙ turning.fair.cursors_length

  at : cursor_of g (set cursors (p - g.first) c) p ≡ c - 1 + 1
  at = let n : cursor_of g (set cursors (p - g.first) c) p ≡ c = cursor_new g cursors stale_long p c front.top.queued.inside in omega arith

  -- the cursor of another pixel, and whether p was seen
  pub seen_stale : (n : ℕ) → IsOf g n → 0 < cursor_of g cursors n → 0 < cursor_of g (set cursors (p - g.first) c) n
  seen_stale n w l = ⊎_elim
      (λ (e : n ≡ p). subst (λ x. 0 < cursor_of g (set cursors (p - g.first) c) x) (sym e)
      (subst (λ x. 0 < x) (sym (cursor_new g cursors stale_long p c front.top.queued.inside)) first))
      (λ (ne : n ≡ p → ⊥). subst (λ x. 0 < x) (sym (cursor_old g cursors stale_long p c front.top.queued.inside n w ne)) l)
      (cases_eq n p)

  module _ (n : ℕ) (w : IsOf g n) (queued : 0 < cursor_of g cursors p) (unseen : cursor_of g cursors n ≡ 0) where
    pub apart : n ≡ p → ⊥
    apart e = let z : cursor_of g cursors p ≡ 0 = subst (λ x. cursor_of g cursors x ≡ 0) e unseen in omega arith

    pub unseen_stale : cursor_of g (set cursors (p - g.first) c) n ≡ 0
    unseen_stale = cursor_old g cursors stale_long p c front.top.queued.inside n w apart ∙ unseen

    places : n - g.first ≡ p - g.first → ⊥
    places e = apart (let a : g.first ≤ n = w.low in let b : g.first ≤ p = front.top.queued.inside.low in omega arith)

    pub swapped : (v : ℕ) → set (set (set cursors (p - g.first) c) (n - g.first) 1) (p - g.first) v ≡ set (set cursors (n - g.first) 1) (p - g.first) v
    swapped v = ap (λ xs. set xs (p - g.first) v) (set_comm cursors (p - g.first) (n - g.first) c 1 (λ e. places (sym e)))
        ∙ set-set (set cursors (n - g.first) 1) (p - g.first) c v

  -- nothing is queued
  pub look_still : (q l m : ℕ) → IsSeen g (set cursors (p - g.first) c) p (c - 1) → IsAround g p (c - 1) l m
      → IsAfter g (state_with lists (set cursors (p - g.first) c) earliest links) (state_with lists (set cursors (p - g.first) (c + 1)) earliest links) q q l m
  look_still q l m seen around = subst (λ xs. IsAfter g now (state_with lists xs earliest links) q q l m) (set-set cursors (p - g.first) c (c + 1))
      (goes_on g now ok turning p (c - 1) (c + 1) q l m front.top.queued at (omega arith) (omega arith) seen around)

  pub still_front : IsAtFront g (state_with lists (set cursors (p - g.first) (c + 1)) earliest links) r p
  still_front = subst (λ xs. IsAtFront g (state_with lists xs earliest links) r p) (set-set cursors (p - g.first) c (c + 1))
      (look_front g now turning.fair r p (c + 1) front (omega arith) (let e : direction_count g.connect ≤ 8 = ends_small g.connect in omega arith))

  -- the neighbour n is queued, which was not seen
  module _ (n t : ℕ) (next : IsNeighbour g.connect g.width g.first (length g.ranks) p (c - 1) n) (queued : 0 < cursor_of g cursors p)
      (unseen : cursor_of g cursors n ≡ 0)
      (rank : (rank_of g n ≡ t) × (t < g.size)) (new : List (List ℕ)) (pushed : new ≡ set lists t (list_at lists t ++ (n - g.first) ∷ [])) where
    abbrev then : FloodState
    then = state_with new (set (set cursors (p - g.first) c) (n - g.first) 1) earliest links

    unseen_now : cursor_of g (set cursors (p - g.first) c) n ≡ 0
    unseen_now = unseen_stale n next.inside queued unseen

    pushed_turning : IsTurning g then
    pushed_turning = see_pushed g now ok turning p front.top n t next.inside next.near rank unseen_now new pushed

    still_queued : IsInQueue g then.cursors p
    still_queued = queued_old g (set cursors (p - g.first) c) long n 1 next.inside p (λ e. apart n next.inside queued unseen (sym e)) front.top.queued

    still_at : cursor_of g then.cursors p ≡ c - 1 + 1
    still_at = cursor_old g (set cursors (p - g.first) c) long n 1 next.inside p front.top.queued.inside (λ e. apart n next.inside queued unseen (sym e)) ∙ at

    pub look_pushed : (q u l m : ℕ) → u ≡ q + 1 → m ≡ l + 1
        → IsAfter g (state_with lists (set cursors (p - g.first) c) earliest links)
        (state_with new (set (set cursors (n - g.first) 1) (p - g.first) (c + 1)) earliest links) q u l m
    look_pushed q u l m eq el = subst (λ xs. IsAfter g now (state_with new xs earliest links) q u l m) (swapped n next.inside queued unseen (c + 1)) (record {
      turning = on.turning;
      step = step_trans g now.cursors then.cursors (set then.cursors (p - g.first) (c + 1)) q u u l l m push on.step;
      less = (let a : work then.cursors ≤ work now.cursors = push.work in let b : work (set then.cursors (p - g.first) (c + 1)) < work then.cursors =
          on.less in omega arith);
    }) where
      push : IsStep g now.cursors then.cursors q u l l
      push = step_push g (set cursors (p - g.first) c) long n 1 next.inside q u l unseen_now (omega arith) eq

      on : IsAfter g then (state_with new (set then.cursors (p - g.first) (c + 1)) earliest links) u u l m
      on = goes_on g then ok pushed_turning p (c - 1) (c + 1) u l m still_queued still_at (omega arith) (omega arith)
          (seen_now g now ok turning p front.top (c - 1) n next)
          (see_around g now ok turning p front.top (c - 1) n l m next (below g n t rank) el)

    pub low_front : t ≤ r → IsAtFront g (state_with new (set (set cursors (n - g.first) 1) (p - g.first) (c + 1)) earliest links) r p
    low_front le = subst (λ xs. IsAtFront g (state_with new xs earliest links) r p) (swapped n next.inside queued unseen (c + 1))
        (look_front g then pushed_turning.fair r p (c + 1)
        (pushed_front g now turning.fair r p n t front next.inside unseen_now rank.0 le new pushed) (omega arith)
        (let e : direction_count g.connect ≤ 8 = ends_small g.connect in omega arith))

    pub high_front : r < t → IsAtFront g (state_with new (set (set cursors (n - g.first) 1) (p - g.first) (c + 1)) earliest links) t n
    high_front l = subst (λ xs. IsAtFront g (state_with new xs earliest links) t n) (swapped n next.inside queued unseen (c + 1))
        (other_front g then pushed_turning.fair t n p (c + 1) front.top.queued.inside (apart n next.inside queued unseen)
        (higher_front g now turning.fair r p n t front next.inside rank.0 rank.1 l new pushed))

    pub queued_after : 0 < cursor_of g (set cursors (n - g.first) 1) p
    queued_after =
        subst (λ x. 0 < x)
        (sym (cursor_old g cursors stale_long n 1 next.inside p front.top.queued.inside (λ e. apart n next.inside queued unseen (sym e)))) queued

-- the cursor that was read, written back
pub same_cursors : (g : Ground) (cursors : List ℕ) (p v : ℕ) → cursor_of g cursors p ≡ v → set cursors (p - g.first) v ≡ cursors
same_cursors g cursors p v e = ap (λ x. set cursors (p - g.first) x) (sym e) ∙ set-get_or cursors (p - g.first) 0
