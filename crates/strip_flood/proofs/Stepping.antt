-- The kinds of step of a flooding: each keeps what is fair.
use Rattle.std.proofs.Common.{◌≡◌, ℕ, ◌+◌, ◌-◌, ◌<◌, ◌≤◌, List, [], ◌∷◌, ◌++◌, length, set, slice_index, Contains, ℤ, ◌⊎◌, inl, inr, refl, sym, subst, ap}
use Rattle.std.proofs.Common.{◌∙◌, ⊎_elim, arith, length-set, get_or-set_same, get_or-set_other}
use Rattle.std.proofs.lemmas.Bool.{cases_eq, cases_lt}
use Rattle.comp_tree.specs.Joined.{Joined, Or, Only}
use Rattle.strip_flood.specs.Joining.{Both, With, AllBut, IsSound, IsComplete}
use Rattle.comp_tree.specs.Forest.{no_node, ComesEarlier, LiesInStretch, IsHigh, link_of, IsLink, IsForest}
use Rattle.comp_tree.specs.Grid.{IsInner}
use Rattle.strip_flood.specs.Flood.{Ground, FloodState, state_with, list_at, direction_count, direction, IsOf, rank_of, cursor_of, IsInQueue, IsEarliestKept}
use Rattle.strip_flood.specs.Flood.{IsOpen, WasLookedAt, IsRanked, IsListed, IsKeptAt, IsFair}
use Rattle.strip_flood.proofs.Joining.{close_sound, close_complete, end_complete}
use Rattle.comp_tree.proofs.Exported.{joined_sym, joined_second, links_before, links_after, link_hung, link_set_other, forest_hung}
use Rattle.strip_flood.proofs.Flow.{sound_fewer, complete_more, add_sound, ends_small, cursor_new, cursor_old, cursor_each, queued_new, queued_old}
use Rattle.strip_flood.proofs.Flow.{queued_cases, queued_done, looked_cases}
use Rattle.strip_flood.proofs.Listing.{push_listed, look_listed, pop_listed}
use Rattle.strip_flood.proofs.Directions.{inner_sym, inner_direction}

abbrev pub High : Ground → ℤ → ℕ → Type 0
High g h = IsHigh g.values g.first (length g.ranks) h

abbrev pub Adj : Ground → ℕ → ℕ → Type 0
Adj g = IsInner g.values g.width g.connect g.first (length g.ranks)

-- no pixel of the strip is no_node
pub not_none : (g : Ground) → IsRanked g → (p : ℕ) → IsOf g p → p ≡ no_node → ⊥
not_none g ok p w e = let a : p < g.first + length g.ranks = w.high in let b : g.first + length g.ranks ≤ no_node = ok.small in omega arith

-- One cursor changes: that of a pixel which is not finished.
module _ (g : Ground) (s : FloodState) (ok : IsRanked g) (fair : IsFair g s) (p v : ℕ) (inside : IsOf g p) (young : cursor_of g s.cursors p < 10) where
  each : (P : ℕ → ℕ → Type 0) → P p v → ((x : ℕ) → IsOf g x → (x ≡ p → ⊥) → P x (cursor_of g s.cursors x)) → (x : ℕ) → IsOf g x
      → P x (cursor_of g (set s.cursors (p - g.first) v) x)
  each P = cursor_each g s.cursors fair.cursors_length p v inside P

  pub bound_set : v ≤ 10 → (x : ℕ) → IsOf g x → cursor_of g (set s.cursors (p - g.first) v) x ≤ 10
  bound_set l = each (λ x c. c ≤ 10) l (λ x w ne. fair.bound x w)

  pub turning_set : (v < 10 → v ≤ direction_count g.connect + 1) → (x : ℕ) → IsOf g x → cursor_of g (set s.cursors (p - g.first) v) x < 10
      → cursor_of g (set s.cursors (p - g.first) v) x ≤ direction_count g.connect + 1
  turning_set l = each (λ x c. c < 10 → c ≤ direction_count g.connect + 1) l (λ x w ne. fair.turning x w)

  pub seen_set : rank_of g p < g.size → (x : ℕ) → IsOf g x → 0 < cursor_of g (set s.cursors (p - g.first) v) x → rank_of g x < g.size
  seen_set r = each (λ x c. 0 < c → rank_of g x < g.size) (λ l. r) (λ x w ne. fair.seen x w)

  -- a kept pixel is another
  pub kept_set : (r e : ℕ) → IsKeptAt g s.cursors r e → IsKeptAt g (set s.cursors (p - g.first) v) r e
  kept_set r e k = record {
    inside = k.inside;
    rank = k.rank;
    finished = cursor_old g s.cursors fair.cursors_length p v inside e k.inside (λ (same : e ≡ p). let f : cursor_of g s.cursors p ≡ 10 =
        subst (λ x. cursor_of g s.cursors x ≡ 10) same k.finished in omega arith) ∙ k.finished;
  }

  pub free_set : (x : ℕ) → IsOf g x → (cursor_of g (set s.cursors (p - g.first) v) x < 10) ⊎ IsEarliestKept g s.earliest x → link_of g.first s.links x ≡ no_node
  free_set = each (λ x c. (c < 10) ⊎ IsEarliestKept g s.earliest x → link_of g.first s.links x ≡ no_node) (λ o. fair.free p inside (inl young))
      (λ x w ne. fair.free x w)

-- A pixel that was not seen is queued. Each open pixel of a level is joined to it.
module _ (g : Ground) (s : FloodState) (ok : IsRanked g) (fair : IsFair g s) (p r : ℕ) (inside : IsOf g p) (rank : rank_of g p ≡ r) (low : r < g.size)
    (unseen : cursor_of g s.cursors p ≡ 0)
    (joins : (h : ℤ) (x : ℕ) → High g h x → High g h p → IsOpen g s.cursors s.earliest x → Joined (High g h) (Adj g) x p) where
  pub push_fair : IsFair g (state_with (set s.lists r (list_at s.lists r ++ (p - g.first) ∷ [])) (set s.cursors (p - g.first) 1) s.earliest s.links)
  push_fair = record {
    cursors_length = rw length-set fair.cursors_length;
    links_length = fair.links_length;
    earliest_length = fair.earliest_length;
    lists_length = rw length-set fair.lists_length;
    listed = push_listed g s.lists s.cursors fair.cursors_length p inside fair.listed r (let e : length s.lists ≡ g.size =
        fair.lists_length in omega arith) rank;
    bound = bound_set g s ok fair p 1 inside young (omega arith);
    turning = turning_set g s ok fair p 1 inside young (λ l. omega arith);
    seen = seen_set g s ok fair p 1 inside young (omega arith);
    kept = λ t lt some. kept_set g s ok fair p 1 inside young t (slice_index s.earliest t) (fair.kept t lt some);
    free = free_set g s ok fair p 1 inside young;
    forest = fair.forest;
    joining = record { sound = sound; complete = complete };
  } where
    young : cursor_of g s.cursors p < 10
    young = omega arith

    later : List ℕ
    later = set s.cursors (p - g.first) 1

    sound : (h : ℤ) → IsSound (High g h) (Adj g) (IsLink g.first s.links) (IsOpen g later s.earliest)
    sound h = sound_fewer (High g h) (Adj g) (IsLink g.first s.links) (IsLink g.first s.links) (With (IsOpen g s.cursors s.earliest) p)
        (IsOpen g later s.earliest) (λ x y m. m) open_with
        (add_sound (High g h) (Adj g) (IsLink g.first s.links) (IsOpen g s.cursors s.earliest) p (joins h) (fair.joining.sound h)) where
          open_with : (x : ℕ) → IsOpen g later s.earliest x → With (IsOpen g s.cursors s.earliest) p x
          open_with x (inl q) = ⊎_elim (λ (o : (x ≡ p → ⊥) × IsInQueue g s.cursors x). inl (inl o.1)) (λ (e : x ≡ p). inr e)
              (queued_cases g s.cursors fair.cursors_length p 1 inside x q)
          open_with x (inr k) = inl (inr k)

    complete : (h : ℤ) → IsComplete (High g h) (WasLookedAt g later) (IsLink g.first s.links) (IsOpen g later s.earliest)
    complete h = complete_more (High g h) (WasLookedAt g s.cursors) (WasLookedAt g later) (IsLink g.first s.links) (IsLink g.first s.links)
        (IsOpen g s.cursors s.earliest) (IsOpen g later s.earliest)
        looked (λ x y l. l) open_later (fair.joining.complete h) where
          looked : (x y : ℕ) → WasLookedAt g later x y → WasLookedAt g s.cursors x y
          looked x y b = ⊎_elim (λ (o : WasLookedAt g s.cursors x y). o)
              (λ (n : (x ≡ p) × (IsInner g.values g.width g.connect g.first (length g.ranks) p y × (direction g.connect g.width p y + 1 < 1))). absurd
              (let l : direction g.connect g.width p y + 1 < 1 = n.1.1 in omega arith))
              (looked_cases g s.cursors fair.cursors_length p 1 inside x y b)

          open_later : (x : ℕ) → IsOpen g s.cursors s.earliest x → IsOpen g later s.earliest x
          open_later x (inl q) =
              inl (queued_old g s.cursors fair.cursors_length p 1 inside x (λ (e : x ≡ p). let l : 0 < cursor_of g s.cursors p =
              subst (λ y. 0 < cursor_of g s.cursors y) e q.low in omega arith) q)
          open_later x (inr k) = inr k

-- A queued pixel looks in its next direction. A neighbour there was seen.
module _ (g : Ground) (s : FloodState) (ok : IsRanked g) (fair : IsFair g s) (p v : ℕ) (queued : IsInQueue g s.cursors p)
    (next : v ≡ cursor_of g s.cursors p + 1) (more : v ≤ direction_count g.connect + 1)
    (seen : (y : ℕ) → IsInner g.values g.width g.connect g.first (length g.ranks) p y → direction g.connect g.width p y + 1 ≡ cursor_of g s.cursors p
    → 0 < cursor_of g s.cursors y) where
  pub look_fair : IsFair g (state_with s.lists (set s.cursors (p - g.first) v) s.earliest s.links)
  look_fair = record {
    cursors_length = rw length-set fair.cursors_length;
    links_length = fair.links_length;
    earliest_length = fair.earliest_length;
    lists_length = fair.lists_length;
    listed = look_listed g s.lists s.cursors fair.cursors_length p queued.inside fair.listed v (omega arith) below queued;
    bound = bound_set g s ok fair p v queued.inside queued.high (omega arith);
    turning = turning_set g s ok fair p v queued.inside queued.high (λ l. more);
    seen = seen_set g s ok fair p v queued.inside queued.high (fair.seen p queued.inside queued.low);
    kept = λ t lt some. kept_set g s ok fair p v queued.inside queued.high t (slice_index s.earliest t) (fair.kept t lt some);
    free = free_set g s ok fair p v queued.inside queued.high;
    forest = fair.forest;
    joining = record { sound = sound; complete = complete };
  } where
    below : v < 10
    below = let e : direction_count g.connect ≤ 8 = ends_small g.connect in omega arith

    later : List ℕ
    later = set s.cursors (p - g.first) v

    open_before : (x : ℕ) → IsOpen g later s.earliest x → IsOpen g s.cursors s.earliest x
    open_before x (inl q) = ⊎_elim (λ (o : (x ≡ p → ⊥) × IsInQueue g s.cursors x). inl o.1)
        (λ (e : x ≡ p). inl (subst (λ y. IsInQueue g s.cursors y) (sym e) queued)) (queued_cases g s.cursors fair.cursors_length p v queued.inside x q)
    open_before x (inr k) = inr k

    open_later : (x : ℕ) → IsOpen g s.cursors s.earliest x → IsOpen g later s.earliest x
    open_later x (inl q) = ⊎_elim
        (λ (e : x ≡ p). inl (subst (λ y. IsInQueue g later y) (sym e) (queued_new g s.cursors fair.cursors_length p v queued.inside (omega arith) below)))
        (λ (ne : x ≡ p → ⊥). inl (queued_old g s.cursors fair.cursors_length p v queued.inside x ne q)) (cases_eq x p)
    open_later x (inr k) = inr k

    sound : (h : ℤ) → IsSound (High g h) (Adj g) (IsLink g.first s.links) (IsOpen g later s.earliest)
    sound h = sound_fewer (High g h) (Adj g) (IsLink g.first s.links) (IsLink g.first s.links) (IsOpen g s.cursors s.earliest) (IsOpen g later s.earliest)
        (λ x y m. m) open_before (fair.joining.sound h)

    complete : (h : ℤ) → IsComplete (High g h) (WasLookedAt g later) (IsLink g.first s.links) (IsOpen g later s.earliest)
    complete h = record { looked = looked } where
      old : IsComplete (High g h) (WasLookedAt g s.cursors) (IsLink g.first s.links) (IsOpen g later s.earliest)
      old = complete_more (High g h) (WasLookedAt g s.cursors) (WasLookedAt g s.cursors) (IsLink g.first s.links) (IsLink g.first s.links)
          (IsOpen g s.cursors s.earliest) (IsOpen g later s.earliest)
          (λ x y l. l) (λ x y l. l) open_later (fair.joining.complete h)

      J : ℕ → ℕ → Type 0
      J = Joined (High g h) (Or (IsLink g.first s.links) (Both (IsOpen g later s.earliest)))

      here_seen : (y : ℕ) → High g h p → High g h y → IsInner g.values g.width g.connect g.first (length g.ranks) p y → 0 < cursor_of g s.cursors y → J p y
      here_seen y hp hy i low = ⊎_elim
          (λ (young : cursor_of g s.cursors y < 10). joined_second (IsLink g.first s.links) (Both (IsOpen g later s.earliest)) p y hp hy
          (open_later p (inl queued), open_later y (inl (record { inside = i.other; low = low; high = young }))))
          (λ (old_y : 10 ≤ cursor_of g s.cursors y).
          let back : IsInner g.values g.width g.connect g.first (length g.ranks) y p = inner_sym g.values g.width g.connect g.first (length g.ranks) p y i in
          let d : direction g.connect g.width y p < direction_count g.connect =
          inner_direction g.values g.width g.connect g.first (length g.ranks) y p ok.wide back in
          let e : direction_count g.connect ≤ 8 = ends_small g.connect in
          joined_sym (old.looked y p hy hp (record { inner = back; turned = omega arith })))
          (cases_lt (cursor_of g s.cursors y) 10)

      here_new : (y : ℕ) → High g h p → High g h y → IsInner g.values g.width g.connect g.first (length g.ranks) p y → direction g.connect g.width p y + 1 < v
          → J p y
      here_new y hp hy i t = ⊎_elim
          (λ (l : direction g.connect g.width p y + 1 < cursor_of g s.cursors p). old.looked p y hp hy (record { inner = i; turned = l }))
          (λ (m : cursor_of g s.cursors p ≤ direction g.connect g.width p y + 1). here_seen y hp hy i (seen y i (omega arith)))
          (cases_lt (direction g.connect g.width p y + 1) (cursor_of g s.cursors p))

      looked : (x y : ℕ) → High g h x → High g h y → WasLookedAt g later x y → J x y
      looked x y hx hy b = ⊎_elim
          (λ (o : WasLookedAt g s.cursors x y). old.looked x y hx hy o)
          (λ (n : (x ≡ p) × (IsInner g.values g.width g.connect g.first (length g.ranks) p y × (direction g.connect g.width p y + 1 < v))).
          subst (λ z. J z y) (sym n.0) (here_new y (subst (λ z. High g h z) n.0 hx) hy n.1.0 n.1.1))
          (looked_cases g s.cursors fair.cursors_length p v queued.inside x y b)

-- the kept pixel of a rank
module _ (g : Ground) (s : FloodState) (ok : IsRanked g) (fair : IsFair g s) (r e : ℕ) (low : r < g.size) (is : slice_index s.earliest r ≡ e)
    (some : e ≡ no_node → ⊥) where
  pub kept_there : IsKeptAt g s.cursors r e
  kept_there = subst (λ x. IsKeptAt g s.cursors r x) is (fair.kept r low (λ n. some (sym is ∙ n)))

  pub kept_it : IsEarliestKept g s.earliest e
  kept_it = record {
    inside = kept_there.inside;
    ranked = subst (λ t. t < g.size) (sym kept_there.rank) low;
    kept =
        ap (λ t. slice_index s.earliest t) kept_there.rank ∙ is;
  }

  in_earliest : r < length s.earliest
  in_earliest = let l : length s.earliest ≡ g.size = fair.earliest_length in omega arith

  -- where it is kept no more, the others still are
  pub kept_before : (x : ℕ) → IsEarliestKept g (set s.earliest r no_node) x → IsEarliestKept g s.earliest x × (x ≡ e → ⊥)
  kept_before x k = ⊎_elim
      (λ (same : rank_of g x ≡ r).
      absurd (not_none g ok x k.inside (sym k.kept
      ∙ (ap (λ t. slice_index (set s.earliest r no_node) t) same ∙ get_or-set_same s.earliest r no_node 0 in_earliest))))
      (λ (ne : rank_of g x ≡ r → ⊥). (
        record {
          inside = k.inside;
          ranked = k.ranked;
          kept =
              sym (get_or-set_other s.earliest r (rank_of g x) no_node 0 ne) ∙ k.kept;
        },
        λ (same : x ≡ e). ne (ap (λ y. rank_of g y) same ∙ kept_there.rank),
      ))
      (cases_eq (rank_of g x) r)

  pub kept_later : (x : ℕ) → (x ≡ e → ⊥) → IsEarliestKept g s.earliest x → IsEarliestKept g (set s.earliest r no_node) x
  kept_later x ne k = record {
    inside = k.inside;
    ranked = k.ranked;
    kept =
        get_or-set_other s.earliest r (rank_of g x) no_node 0 (λ (same : rank_of g x ≡ r). ne (sym k.kept ∙ (ap (λ t. slice_index s.earliest t) same ∙ is)))
        ∙ k.kept;
  }

  pub none_kept : (t : ℕ) → t < g.size → (slice_index (set s.earliest r no_node) t ≡ no_node → ⊥)
      → (t ≡ r → ⊥) × (slice_index (set s.earliest r no_node) t ≡ slice_index s.earliest t)
  none_kept t lt some_t = ⊎_elim
      (λ (same : t ≡ r). absurd (some_t (ap (λ u. slice_index (set s.earliest r no_node) u) same ∙ get_or-set_same s.earliest r no_node 0 in_earliest)))
      (λ (ne : t ≡ r → ⊥). (ne, get_or-set_other s.earliest r t no_node 0 ne))
      (cases_eq t r)

-- The pixel a, whose link is no_node, is hung under the earlier b.
module _ (g : Ground) (s : FloodState) (ok : IsRanked g) (fair : IsFair g s) (a b : ℕ) (wa : IsOf g a) (wb : IsOf g b)
    (unhung : link_of g.first s.links a ≡ no_node) (earlier : ComesEarlier g.values b a) where
  links : List ℕ
  links = s.links

  wide : (x : ℕ) → IsOf g x → LiesInStretch g.first (length s.links) x
  wide x w = subst (λ n. LiesInStretch g.first n x) (sym fair.links_length) w

  pub hung_forest : IsForest g.values g.first (set s.links (a - g.first) b)
  hung_forest = forest_hung g.first s.links a b (wide a wa) g.values fair.forest (wide b wb) earlier

  pub hung_kept : (h : ℤ) (x y : ℕ) → High g h y → IsLink g.first s.links x y → IsLink g.first (set s.links (a - g.first) b) x y
  hung_kept h x y hy l = ⊎_elim
      (λ (o : Only a no_node x y). absurd (not_none g ok y hy.within o.1))
      (λ (m : IsLink g.first (set s.links (a - g.first) b) x y). m)
      (links_before g.first s.links a b (wide a wa) no_node unhung x y l)

  pub hung_new : (x y : ℕ) → IsLink g.first (set s.links (a - g.first) b) x y → Only a b x y ⊎ IsLink g.first s.links x y
  hung_new = links_after g.first s.links a b (wide a wa)

  pub hung_it : IsLink g.first (set s.links (a - g.first) b) a b
  hung_it = link_hung g.first s.links a b (wide a wa)

  pub hung_other : (x : ℕ) → IsOf g x → (x ≡ a → ⊥) → link_of g.first (set s.links (a - g.first) b) x ≡ link_of g.first s.links x
  hung_other x w ne = link_set_other g.first s.links a b (wide a wa) x (wide x w) ne

-- The kept pixel of a rank is hung under the queued pixel q.
module _ (g : Ground) (s : FloodState) (ok : IsRanked g) (fair : IsFair g s) (r e q : ℕ) (low : r < g.size)
    (is : slice_index s.earliest r ≡ e) (some : e ≡ no_node → ⊥)
    (queued : IsInQueue g s.cursors q) (earlier : ComesEarlier g.values q e)
    (between : (h : ℤ) (x : ℕ) → IsOpen g s.cursors s.earliest x → (x ≡ e → ⊥) → High g h e → High g h x → High g h q) where
  pub hang_fair : IsFair g (state_with s.lists s.cursors (set s.earliest r no_node) (set s.links (e - g.first) q))
  hang_fair = record {
    cursors_length = fair.cursors_length;
    links_length = rw length-set fair.links_length;
    earliest_length = rw length-set fair.earliest_length;
    lists_length = fair.lists_length;
    listed = fair.listed;
    bound = fair.bound;
    turning = fair.turning;
    seen = fair.seen;
    kept = kept;
    free = free;
    forest = hung_forest g s ok fair e q it.inside queued.inside unhung earlier;
    joining = record { sound = sound; complete = complete };
  } where
    it : IsKeptAt g s.cursors r e
    it = kept_there g s ok fair r e low is some

    open_e : IsEarliestKept g s.earliest e
    open_e = kept_it g s ok fair r e low is some

    unhung : link_of g.first s.links e ≡ no_node
    unhung = fair.free e it.inside (inr open_e)

    apart : (x : ℕ) → cursor_of g s.cursors x < 10 → x ≡ e → ⊥
    apart x l same = let f : cursor_of g s.cursors x ≡ 10 = ap (λ y. cursor_of g s.cursors y) same ∙ it.finished in omega arith

    kept : (t : ℕ) → t < g.size → (slice_index (set s.earliest r no_node) t ≡ no_node → ⊥) → IsKeptAt g s.cursors t (slice_index (set s.earliest r no_node) t)
    kept t lt some_t = let o : (t ≡ r → ⊥) × (slice_index (set s.earliest r no_node) t ≡ slice_index s.earliest t) =
        none_kept g s ok fair r e low is some t lt some_t in
        subst (λ x. IsKeptAt g s.cursors t x) (sym o.1) (fair.kept t lt (λ n. some_t (o.1 ∙ n)))

    free : (x : ℕ) → IsOf g x → (cursor_of g s.cursors x < 10) ⊎ IsEarliestKept g (set s.earliest r no_node) x
        → link_of g.first (set s.links (e - g.first) q) x ≡ no_node
    free x w (inl l) = hung_other g s ok fair e q it.inside queued.inside unhung earlier x w (apart x l) ∙ fair.free x w (inl l)
    free x w (inr k) = let o : IsEarliestKept g s.earliest x × (x ≡ e → ⊥) = kept_before g s ok fair r e low is some x k in
        hung_other g s ok fair e q it.inside queued.inside unhung earlier x w o.1 ∙ fair.free x w (inr o.0)

    Open : ℕ → Type 0
    Open = IsOpen g s.cursors s.earliest

    Later : ℕ → Type 0
    Later = IsOpen g s.cursors (set s.earliest r no_node)

    M : ℕ → ℕ → Type 0
    M = IsLink g.first (set s.links (e - g.first) q)

    before : (x : ℕ) → Later x → AllBut Open e x
    before x (inl k) = (inl k, apart x k.high)
    before x (inr k) = let o : IsEarliestKept g s.earliest x × (x ≡ e → ⊥) = kept_before g s ok fair r e low is some x k in (inr o.0, o.1)

    after : (x : ℕ) → AllBut Open e x → Later x
    after x (inl k, ne) = inl k
    after x (inr k, ne) = inr (kept_later g s ok fair r e low is some x ne k)

    sound : (h : ℤ) → IsSound (High g h) (Adj g) M Later
    sound h = sound_fewer (High g h) (Adj g) M M (AllBut Open e) Later (λ x y m. m) before
        (close_sound (High g h) (Adj g) (WasLookedAt g s.cursors) (IsLink g.first s.links) Open M e q
        (hung_kept g s ok fair e q it.inside queued.inside unhung earlier h) (hung_it g s ok fair e q it.inside queued.inside unhung earlier)
        (hung_new g s ok fair e q it.inside queued.inside unhung earlier)
        (inr open_e) (inl queued, apart q queued.high) (fair.joining.sound h))

    complete : (h : ℤ) → IsComplete (High g h) (WasLookedAt g s.cursors) M Later
    complete h = complete_more (High g h) (WasLookedAt g s.cursors) (WasLookedAt g s.cursors) M M (AllBut Open e) Later (λ x y l. l) (λ x y m. m) after
        (close_complete (High g h) (Adj g) (WasLookedAt g s.cursors) (IsLink g.first s.links) Open M e q
        (hung_kept g s ok fair e q it.inside queued.inside unhung earlier h) (hung_it g s ok fair e q it.inside queued.inside unhung earlier)
        (hung_new g s ok fair e q it.inside queued.inside unhung earlier)
        (inr open_e) (inl queued, apart q queued.high) (λ x o he hx. between h x o.0 o.1 he hx) (fair.joining.complete h))

-- The kept pixel of a rank is the only open one, and is kept no more.
module _ (g : Ground) (s : FloodState) (ok : IsRanked g) (fair : IsFair g s) (r e : ℕ) (low : r < g.size)
    (is : slice_index s.earliest r ≡ e) (some : e ≡ no_node → ⊥)
    (alone : (x : ℕ) → IsOpen g s.cursors s.earliest x → x ≡ e) where
  pub end_fair : IsFair g (state_with s.lists s.cursors (set s.earliest r no_node) s.links)
  end_fair = record {
    cursors_length = fair.cursors_length;
    links_length = fair.links_length;
    earliest_length = rw length-set fair.earliest_length;
    lists_length = fair.lists_length;
    listed = fair.listed;
    bound = fair.bound;
    turning = fair.turning;
    seen = fair.seen;
    kept = kept;
    free = free;
    forest = fair.forest;
    joining = record { sound = sound; complete = complete };
  } where
    kept : (t : ℕ) → t < g.size → (slice_index (set s.earliest r no_node) t ≡ no_node → ⊥) → IsKeptAt g s.cursors t (slice_index (set s.earliest r no_node) t)
    kept t lt some_t = let o : (t ≡ r → ⊥) × (slice_index (set s.earliest r no_node) t ≡ slice_index s.earliest t) =
        none_kept g s ok fair r e low is some t lt some_t in
        subst (λ x. IsKeptAt g s.cursors t x) (sym o.1) (fair.kept t lt (λ n. some_t (o.1 ∙ n)))

    free : (x : ℕ) → IsOf g x → (cursor_of g s.cursors x < 10) ⊎ IsEarliestKept g (set s.earliest r no_node) x → link_of g.first s.links x ≡ no_node
    free x w (inl l) = fair.free x w (inl l)
    free x w (inr k) = fair.free x w (inr (kept_before g s ok fair r e low is some x k).0)

    before : (x : ℕ) → IsOpen g s.cursors (set s.earliest r no_node) x → IsOpen g s.cursors s.earliest x
    before x (inl k) = inl k
    before x (inr k) = inr (kept_before g s ok fair r e low is some x k).0

    sound : (h : ℤ) → IsSound (High g h) (Adj g) (IsLink g.first s.links) (IsOpen g s.cursors (set s.earliest r no_node))
    sound h = sound_fewer (High g h) (Adj g) (IsLink g.first s.links) (IsLink g.first s.links) (IsOpen g s.cursors s.earliest)
        (IsOpen g s.cursors (set s.earliest r no_node)) (λ x y m. m) before (fair.joining.sound h)

    complete : (h : ℤ) → IsComplete (High g h) (WasLookedAt g s.cursors) (IsLink g.first s.links) (IsOpen g s.cursors (set s.earliest r no_node))
    complete h = complete_more (High g h) (WasLookedAt g s.cursors) (WasLookedAt g s.cursors) (IsLink g.first s.links) (IsLink g.first s.links) (λ x. ⊥)
        (IsOpen g s.cursors (set s.earliest r no_node)) (λ x y l. l) (λ x y m. m) (λ x o. absurd o)
        (end_complete (High g h) (Adj g) (WasLookedAt g s.cursors) (IsLink g.first s.links) (IsOpen g s.cursors s.earliest) e alone (fair.joining.complete h))

-- The first pixel p of the list of its rank is finished.
module _ (g : Ground) (s : FloodState) (ok : IsRanked g) (fair : IsFair g s) (r p : ℕ) (rest : List ℕ)
    (queued : IsInQueue g s.cursors p) (rank : rank_of g p ≡ r)
    (front : list_at s.lists r ≡ (p - g.first) ∷ rest) (once : Contains rest (p - g.first) → ⊥)
    (turned : cursor_of g s.cursors p ≡ direction_count g.connect + 1) where
  abbrev done : List ℕ
  done = set s.cursors (p - g.first) 10

  low : r < g.size
  low = let l : rank_of g p < g.size = fair.seen p queued.inside queued.low in omega arith

  pub pop_lists : IsListed g (set s.lists r rest) (set s.cursors (p - g.first) 10)
  pop_lists = pop_listed g s.lists s.cursors fair.cursors_length p queued.inside fair.listed r rest (let e : length s.lists ≡ g.size =
      fair.lists_length in let l : r < g.size = low in omega arith) front once

  -- it looked in each direction
  pub pop_looked : (x y : ℕ) → WasLookedAt g (set s.cursors (p - g.first) 10) x y → WasLookedAt g s.cursors x y
  pop_looked x y b = ⊎_elim
      (λ (o : WasLookedAt g s.cursors x y). o)
      (λ (n : (x ≡ p) × (IsInner g.values g.width g.connect g.first (length g.ranks) p y × (direction g.connect g.width p y + 1 < 10))).
      subst (λ z. WasLookedAt g s.cursors z y) (sym n.0)
      (record {
        inner = n.1.0;
        turned = (let d : direction g.connect g.width p y < direction_count g.connect =
            inner_direction g.values g.width g.connect g.first (length g.ranks) p y ok.wide n.1.0 in omega arith);
      }))
      (looked_cases g s.cursors fair.cursors_length p 10 queued.inside x y b)

  -- It is hung under the kept pixel of its rank, which is earlier.
  module _ (e : ℕ) (is : slice_index s.earliest r ≡ e) (some : e ≡ no_node → ⊥) (earlier : ComesEarlier g.values e p) where
    pub under_fair : IsFair g (state_with (set s.lists r rest) (set s.cursors (p - g.first) 10) s.earliest (set s.links (p - g.first) e))
    under_fair = record {
      cursors_length = rw length-set fair.cursors_length;
      links_length = rw length-set fair.links_length;
      earliest_length = fair.earliest_length;
      lists_length = rw length-set fair.lists_length;
      listed = pop_lists;
      bound = bound_set g s ok fair p 10 queued.inside queued.high (omega arith);
      turning = turning_set g s ok fair p 10 queued.inside queued.high (λ l. absurd (omega arith));
      seen = seen_set g s ok fair p 10 queued.inside queued.high (let l : r < g.size = low in omega arith);
      kept = λ t lt some_t. kept_set g s ok fair p 10 queued.inside queued.high t (slice_index s.earliest t) (fair.kept t lt some_t);
      free = free;
      forest = hung_forest g s ok fair p e queued.inside it.inside unhung earlier;
      joining = record { sound = sound; complete = complete };
    } where
      it : IsKeptAt g s.cursors r e
      it = kept_there g s ok fair r e low is some

      open_e : IsEarliestKept g s.earliest e
      open_e = kept_it g s ok fair r e low is some

      unhung : link_of g.first s.links p ≡ no_node
      unhung = fair.free p queued.inside (inl queued.high)

      -- a kept pixel is another
      apart : (x : ℕ) → IsEarliestKept g s.earliest x → x ≡ p → ⊥
      apart x k same = let f : cursor_of g s.cursors x ≡ 10 =
          (subst (λ y. IsKeptAt g s.cursors (rank_of g x) y) k.kept
          (fair.kept (rank_of g x) k.ranked (λ n. not_none g ok x k.inside (sym k.kept ∙ n)))).finished in
          let l : cursor_of g s.cursors x < 10 = subst (λ y. cursor_of g s.cursors y < 10) (sym same) queued.high in omega arith

      free : (x : ℕ) → IsOf g x → (cursor_of g done x < 10) ⊎ IsEarliestKept g s.earliest x → link_of g.first (set s.links (p - g.first) e) x ≡ no_node
      free x w o = ⊎_elim
          (λ (same : x ≡ p). ⊎_elim
          (λ (l : cursor_of g done x < 10). absurd (let f : cursor_of g done p ≡ 10 = cursor_new g s.cursors fair.cursors_length p 10 queued.inside in
          let l2 : cursor_of g done p < 10 = subst (λ y. cursor_of g done y < 10) same l in omega arith))
          (λ (k : IsEarliestKept g s.earliest x). absurd (apart x k same))
          o)
          (λ (ne : x ≡ p → ⊥). hung_other g s ok fair p e queued.inside it.inside unhung earlier x w ne ∙ ⊎_elim
          (λ (l : cursor_of g done x < 10). fair.free x w (inl (subst (λ c. c < 10) (cursor_old g s.cursors fair.cursors_length p 10 queued.inside x w ne) l)))
          (λ (k : IsEarliestKept g s.earliest x). fair.free x w (inr k))
          o)
          (cases_eq x p)

      Open : ℕ → Type 0
      Open = IsOpen g s.cursors s.earliest

      Later : ℕ → Type 0
      Later = IsOpen g done s.earliest

      M : ℕ → ℕ → Type 0
      M = IsLink g.first (set s.links (p - g.first) e)

      before : (x : ℕ) → Later x → AllBut Open p x
      before x (inl k) = let o : (x ≡ p → ⊥) × IsInQueue g s.cursors x = queued_done g s.cursors fair.cursors_length p 10 queued.inside refl x k in
          (inl o.1, o.0)
      before x (inr k) = (inr k, apart x k)

      after : (x : ℕ) → AllBut Open p x → Later x
      after x (inl k, ne) = inl (queued_old g s.cursors fair.cursors_length p 10 queued.inside x ne k)
      after x (inr k, ne) = inr k

      up : (h : ℤ) → High g h p → High g h e
      up h hp = record {
        within = it.inside;
        value =
            ok.up h p e queued.inside it.inside (let a : rank_of g e ≡ r = it.rank in omega arith) (let a : rank_of g e ≡ r = it.rank in let l : r < g.size =
            low in omega arith) hp.value;
      }

      sound : (h : ℤ) → IsSound (High g h) (Adj g) M Later
      sound h = sound_fewer (High g h) (Adj g) M M (AllBut Open p) Later (λ x y m. m) before
          (close_sound (High g h) (Adj g) (WasLookedAt g s.cursors) (IsLink g.first s.links) Open M p e
          (hung_kept g s ok fair p e queued.inside it.inside unhung earlier h) (hung_it g s ok fair p e queued.inside it.inside unhung earlier)
          (hung_new g s ok fair p e queued.inside it.inside unhung earlier)
          (inl queued) (inr open_e, apart e open_e) (fair.joining.sound h))

      complete : (h : ℤ) → IsComplete (High g h) (WasLookedAt g done) M Later
      complete h = complete_more (High g h) (WasLookedAt g s.cursors) (WasLookedAt g done) M M (AllBut Open p) Later pop_looked (λ x y m. m) after
          (close_complete (High g h) (Adj g) (WasLookedAt g s.cursors) (IsLink g.first s.links) Open M p e
          (hung_kept g s ok fair p e queued.inside it.inside unhung earlier h) (hung_it g s ok fair p e queued.inside it.inside unhung earlier)
          (hung_new g s ok fair p e queued.inside it.inside unhung earlier)
          (inl queued) (inr open_e, apart e open_e) (λ x o hp hx. up h hp) (fair.joining.complete h))

  -- It is kept: no pixel of its rank was.
  module _ (vacant : slice_index s.earliest r ≡ no_node) where
    pub keep_fair : IsFair g (state_with (set s.lists r rest) (set s.cursors (p - g.first) 10) (set s.earliest r p) s.links)
    keep_fair = record {
      cursors_length = rw length-set fair.cursors_length;
      links_length = fair.links_length;
      earliest_length = rw length-set fair.earliest_length;
      lists_length = rw length-set fair.lists_length;
      listed = pop_lists;
      bound = bound_set g s ok fair p 10 queued.inside queued.high (omega arith);
      turning = turning_set g s ok fair p 10 queued.inside queued.high (λ l. absurd (omega arith));
      seen = seen_set g s ok fair p 10 queued.inside queued.high (let l : r < g.size = low in omega arith);
      kept = kept;
      free = free;
      forest = fair.forest;
      joining = record { sound = sound; complete = complete };
    } where
      later : List ℕ
      later = set s.earliest r p

      in_earliest_r : r < length s.earliest
      in_earliest_r = let e : length s.earliest ≡ g.size = fair.earliest_length in let l : r < g.size = low in omega arith

      at_r : slice_index later r ≡ p
      at_r = get_or-set_same s.earliest r p 0 in_earliest_r

      kept : (t : ℕ) → t < g.size → (slice_index later t ≡ no_node → ⊥) → IsKeptAt g done t (slice_index later t)
      kept t lt some_t = ⊎_elim
          (λ (same : t ≡ r). subst (λ u. IsKeptAt g done u (slice_index later u)) (sym same) (subst (λ x. IsKeptAt g done r x) (sym at_r)
          (record { inside = queued.inside; rank = rank; finished = cursor_new g s.cursors fair.cursors_length p 10 queued.inside })))
          (λ (ne : t ≡ r → ⊥). let o : slice_index later t ≡ slice_index s.earliest t = get_or-set_other s.earliest r t p 0 ne in
          subst (λ x. IsKeptAt g done t x) (sym o)
          (kept_set g s ok fair p 10 queued.inside queued.high t (slice_index s.earliest t) (fair.kept t lt (λ n. some_t (o ∙ n)))))
          (cases_eq t r)

      kept_cases : (x : ℕ) → IsEarliestKept g later x → IsEarliestKept g s.earliest x ⊎ (x ≡ p)
      kept_cases x k = ⊎_elim
          (λ (same : rank_of g x ≡ r). inr (sym k.kept ∙ (ap (λ t. slice_index later t) same ∙ at_r)))
          (λ (ne : rank_of g x ≡ r → ⊥). inl (record {
            inside = k.inside;
            ranked = k.ranked;
            kept =
                sym (get_or-set_other s.earliest r (rank_of g x) p 0 ne) ∙ k.kept;
          }))
          (cases_eq (rank_of g x) r)

      kept_still : (x : ℕ) → IsEarliestKept g s.earliest x → IsEarliestKept g later x
      kept_still x k = record {
        inside = k.inside;
        ranked = k.ranked;
        kept = get_or-set_other s.earliest r (rank_of g x) p 0
            (λ (same : rank_of g x ≡ r). not_none g ok x k.inside (sym k.kept ∙ (ap (λ t. slice_index s.earliest t) same ∙ vacant))) ∙ k.kept;
      }

      kept_new : IsEarliestKept g later p
      kept_new = record { inside = queued.inside; ranked = (let l : r < g.size = low in omega arith); kept = ap (λ t. slice_index later t) rank ∙ at_r }

      free : (x : ℕ) → IsOf g x → (cursor_of g done x < 10) ⊎ IsEarliestKept g later x → link_of g.first s.links x ≡ no_node
      free x w o = ⊎_elim
          (λ (same : x ≡ p). subst (λ y. link_of g.first s.links y ≡ no_node) (sym same) (fair.free p queued.inside (inl queued.high)))
          (λ (ne : x ≡ p → ⊥). ⊎_elim
          (λ (l : cursor_of g done x < 10). fair.free x w (inl (subst (λ c. c < 10) (cursor_old g s.cursors fair.cursors_length p 10 queued.inside x w ne) l)))
          (λ (k : IsEarliestKept g later x). ⊎_elim (λ (old : IsEarliestKept g s.earliest x). fair.free x w (inr old))
          (λ (same : x ≡ p). absurd (ne same)) (kept_cases x k))
          o)
          (cases_eq x p)

      before : (x : ℕ) → IsOpen g done later x → IsOpen g s.cursors s.earliest x
      before x (inl k) = inl (queued_done g s.cursors fair.cursors_length p 10 queued.inside refl x k).1
      before x (inr k) = ⊎_elim (λ (old : IsEarliestKept g s.earliest x). inr old)
          (λ (same : x ≡ p). inl (subst (λ y. IsInQueue g s.cursors y) (sym same) queued)) (kept_cases x k)

      after : (x : ℕ) → IsOpen g s.cursors s.earliest x → IsOpen g done later x
      after x (inl k) = ⊎_elim
          (λ (same : x ≡ p). inr (subst (λ y. IsEarliestKept g later y) (sym same) kept_new))
          (λ (ne : x ≡ p → ⊥). inl (queued_old g s.cursors fair.cursors_length p 10 queued.inside x ne k)) (cases_eq x p)
      after x (inr k) = inr (kept_still x k)

      sound : (h : ℤ) → IsSound (High g h) (Adj g) (IsLink g.first s.links) (IsOpen g done later)
      sound h = sound_fewer (High g h) (Adj g) (IsLink g.first s.links) (IsLink g.first s.links) (IsOpen g s.cursors s.earliest) (IsOpen g done later)
          (λ x y m. m) before (fair.joining.sound h)

      complete : (h : ℤ) → IsComplete (High g h) (WasLookedAt g done) (IsLink g.first s.links) (IsOpen g done later)
      complete h = complete_more (High g h) (WasLookedAt g s.cursors) (WasLookedAt g done) (IsLink g.first s.links) (IsLink g.first s.links)
          (IsOpen g s.cursors s.earliest) (IsOpen g done later) pop_looked (λ x y m. m) after (fair.joining.complete h)
