-- What the kinds of step do with the work that is left and with the two counts.
use Rattle.std.proofs.Common.{◌≡◌, ℕ, zero, suc, ◌+◌, ◌-◌, ◌<◌, ◌≤◌, Bool, true, false, List, length, set, slice_index, refl, sym, subst, subst₂, ap, ◌∙◌}
use Rattle.std.proofs.Common.{⊎_elim, arith, length-set, get_or-set_same, get_or-set_other}
use Rattle.std.specs.Prelude.{nat_lt, ◌&&◌}
use Rattle.std.proofs.lemmas.Bool.{cases_eq, cases_lt, and_parts, and_from, false_from_ne_true}
use Rattle.std.proofs.lemmas.Bool.Decides.{nat_tests}
use Rattle.comp_tree.specs.Counts.{count_below, sum_below}
use Rattle.comp_tree.specs.Grid.{are_adjacent, IsInner}
use Rattle.strip_flood.specs.Flood.{Ground, direction_count, direction, IsOf, cursor_of, work, seen_count, looks_from, looks, IsStep}
use Rattle.strip_flood.proofs.Flow.{IsAround}
use Rattle.strip_flood.proofs.Directions.{inner_near, inner_direction, direction_once}

pub sum_up : (f k : ℕ → ℕ) (n : ℕ) → ((i : ℕ) → i < n → f i ≤ k i) → sum_below f n ≤ sum_below k n
sum_up f k zero le = omega arith
sum_up f k (suc n) le = omega (arith, sum_up f k n (λ i l. le i (omega arith)), le n (omega arith))

pub sum_same : (f k : ℕ → ℕ) (n : ℕ) → ((i : ℕ) → i < n → f i ≡ k i) → sum_below f n ≡ sum_below k n
sum_same f k zero same = refl
sum_same f k (suc n) same = let a : sum_below f n ≡ sum_below k n = sum_same f k n (λ i l. same i (omega arith)) in
    let b : f n ≡ k n = same n (omega arith) in rw (a, b)

pub sum_one : (f k : ℕ → ℕ) (n i : ℕ) → i < n → k i ≡ f i + 1 → ((j : ℕ) → j < n → (j ≡ i → ⊥) → f j ≡ k j) → sum_below k n ≡ sum_below f n + 1
sum_one f k zero i l one same = absurd (omega arith)
sum_one f k (suc n) i l one same = ⊎_elim
    (λ (e : i ≡ n). let here : k n ≡ f n + 1 = subst (λ x. k x ≡ f x + 1) e one in
    let rest : sum_below f n ≡ sum_below k n = sum_same f k n (λ j m. same j (omega arith) (λ z. omega arith)) in omega arith)
    (λ (ne : i ≡ n → ⊥). let less : i < n = omega arith in
    let rest : sum_below k n ≡ sum_below f n + 1 = sum_one f k n i less one (λ j m z. same j (omega arith) z) in
    let here : f n ≡ k n = same n (omega arith) (λ z. ne (sym z)) in omega arith)
    (cases_eq i n)

pub sum_more : (f k : ℕ → ℕ) (n i : ℕ) → ((j : ℕ) → j < n → f j ≤ k j) → i < n → f i < k i → sum_below f n < sum_below k n
sum_more f k zero i le l lt = absurd (omega arith)
sum_more f k (suc n) i le l lt = ⊎_elim
    (λ (e : i ≡ n). let lt2 : f n < k n = subst (λ x. f x < k x) e lt in omega (arith, sum_up f k n (λ j m. le j (omega arith))))
    (λ (ne : i ≡ n → ⊥). let less : i < n = omega arith in omega (arith, sum_more f k n i (λ j m. le j (omega arith)) less lt, le n (omega arith)))
    (cases_eq i n)

pub count_same : (t u : ℕ → Bool) (n : ℕ) → ((i : ℕ) → i < n → t i ≡ u i) → count_below t n ≡ count_below u n
count_same t u zero same = refl
count_same t u (suc n) same = let a : count_below t n ≡ count_below u n = count_same t u n (λ i l. same i (omega arith)) in
    let b : t n ≡ u n = same n (omega arith) in rw (a, b)

pub count_one : (t u : ℕ → Bool) (n i : ℕ) → i < n → t i ≡ false → u i ≡ true → ((j : ℕ) → j < n → (j ≡ i → ⊥) → t j ≡ u j)
    → count_below u n ≡ count_below t n + 1
count_one t u zero i l f g same = absurd (omega arith)
count_one t u (suc n) i l f g same = ⊎_elim
    (λ (e : i ≡ n). let f' : t n ≡ false = subst (λ x. t x ≡ false) e f in let g' : u n ≡ true = subst (λ x. u x ≡ true) e g in
    let s : count_below t n ≡ count_below u n = count_same t u n (λ j m. same j (omega arith) (λ k. omega arith)) in
    rw (f', g') (omega arith))
    (λ (ne : i ≡ n → ⊥). let less : i < n = omega arith in
    let one : count_below u n ≡ count_below t n + 1 = count_one t u n i less f g (λ j m k. same j (omega arith) k) in
    let b : t n ≡ u n = same n (omega arith) (λ k. ne (sym k)) in
    rw b (omega arith))
    (cases_eq i n)

pub lt_true : (a b : ℕ) → a < b → nat_lt a b ≡ true
lt_true a b l = grind (arith, nat_tests)

pub true_lt : (a b : ℕ) → nat_lt a b ≡ true → a < b
true_lt a b e = grind (arith, nat_tests)

pub le_false : (a b : ℕ) → b ≤ a → nat_lt a b ≡ false
le_false a b l = grind (arith, nat_tests)

-- a number that is not passed
pub same_lt : (a c v : ℕ) → v ≡ c + 1 → (a ≡ c → ⊥) → nat_lt a c ≡ nat_lt a v
same_lt a c v e ne = ⊎_elim
    (λ (l : a < c). lt_true a c l ∙ sym (lt_true a v (omega arith)))
    (λ (m : c ≤ a). le_false a c m ∙ sym (le_false a v (omega arith)))
    (cases_lt a c)

-- One cursor rises.
module _ (cursors : List ℕ) (i v : ℕ) (within : i < length cursors) where
  at_same : slice_index (set cursors i v) i ≡ v
  at_same = get_or-set_same cursors i v 0 within

  at_other : (k : ℕ) → (k ≡ i → ⊥) → slice_index (set cursors i v) k ≡ slice_index cursors k
  at_other k ne = get_or-set_other cursors i k v 0 ne

  at_each : (P : ℕ → ℕ → Type 0) → P i v → ((k : ℕ) → (k ≡ i → ⊥) → P k (slice_index cursors k)) → (k : ℕ) → P k (slice_index (set cursors i v) k)
  at_each P new old k = ⊎_elim
      (λ (e : k ≡ i). subst₂ P (sym e) (sym (ap (λ x. slice_index (set cursors i v) x) e ∙ at_same)) new)
      (λ (ne : k ≡ i → ⊥). subst (λ x. P k x) (sym (at_other k ne)) (old k ne)) (cases_eq k i)

  pub work_up : slice_index cursors i ≤ v → work (set cursors i v) ≤ work cursors
  work_up l = rw length-set (sum_up (λ k. 10 - slice_index (set cursors i v) k) (λ k. 10 - slice_index cursors k) (length cursors)
      (λ k m. at_each (λ k x. 10 - x ≤ 10 - slice_index cursors k) (omega arith) (λ k ne. omega arith) k))

  pub work_less : slice_index cursors i < v → v ≤ 10 → work (set cursors i v) < work cursors
  work_less l h = rw length-set (sum_more (λ k. 10 - slice_index (set cursors i v) k) (λ k. 10 - slice_index cursors k) (length cursors) i
      (λ k m. at_each (λ k x. 10 - x ≤ 10 - slice_index cursors k) (omega arith) (λ k ne. omega arith) k) within
      (let s : slice_index (set cursors i v) i ≡ v = at_same in omega arith))

  pub seen_same : 0 < slice_index cursors i → 0 < v → seen_count (set cursors i v) ≡ seen_count cursors
  seen_same l h = rw length-set (count_same (λ k. nat_lt 0 (slice_index (set cursors i v) k)) (λ k. nat_lt 0 (slice_index cursors k)) (length cursors)
      (λ k m. at_each (λ k x. nat_lt 0 x ≡ nat_lt 0 (slice_index cursors k)) (lt_true 0 v h ∙ sym (lt_true 0 (slice_index cursors i) l)) (λ k ne. refl) k))

  pub seen_one : slice_index cursors i ≡ 0 → 0 < v → seen_count (set cursors i v) ≡ seen_count cursors + 1
  seen_one z h = rw length-set (count_one (λ k. nat_lt 0 (slice_index cursors k)) (λ k. nat_lt 0 (slice_index (set cursors i v) k)) (length cursors) i within
      (le_false 0 (slice_index cursors i) (omega arith)) (subst (λ x. nat_lt 0 x ≡ true) (sym at_same) (lt_true 0 v h))
      (λ k m ne. ap (λ x. nat_lt 0 x) (sym (at_other k ne))))

  -- the looks from i, of which no other pixel has any
  module _ (g : Ground) (long : length cursors ≡ length g.ranks) where
    abbrev near : ℕ → ℕ → Bool
    near a b = are_adjacent g.values g.width g.connect (g.first + a) (g.first + b)

    -- the cursor has to be above this number once a looked at b
    abbrev turn : ℕ → ℕ → ℕ
    turn a b = direction g.connect g.width (g.first + a) (g.first + b) + 1

    abbrev row : List ℕ → ℕ → ℕ
    row cs a = count_below (looks_from g cs a) (length g.ranks)

    other_rows : (a : ℕ) → (a ≡ i → ⊥) → row cursors a ≡ row (set cursors i v) a
    other_rows a ne = count_same (looks_from g cursors a) (looks_from g (set cursors i v) a) (length g.ranks)
        (λ b l. ap (λ c. near a b && nat_lt (turn a b) c) (sym (at_other a ne)))

    at_row : (b : ℕ) (t : Bool) → near i b ≡ t → (near i b ≡ true → nat_lt (turn i b) (slice_index cursors i) ≡ nat_lt (turn i b) v)
        → looks_from g cursors i b ≡ looks_from g (set cursors i v) i b
    at_row b true e same = ap (λ x. near i b && x) (same e) ∙ ap (λ c. near i b && nat_lt (turn i b) c) (sym at_same)
    at_row b false e same =
        subst (λ t. (t && nat_lt (turn i b) (slice_index cursors i)) ≡ (t && nat_lt (turn i b) (slice_index (set cursors i v) i))) (sym e) refl

    -- it passed no adjacency
    pub looks_same : ((b : ℕ) → b < length g.ranks → near i b ≡ true → nat_lt (turn i b) (slice_index cursors i) ≡ nat_lt (turn i b) v)
        → looks g (set cursors i v) ≡ looks g cursors
    looks_same same = sym (sum_same (row cursors) (row (set cursors i v)) (length g.ranks) (λ a l. ⊎_elim
        (λ (e : a ≡ i). subst (λ x. row cursors x ≡ row (set cursors i v) x) (sym e)
        (count_same (looks_from g cursors i) (looks_from g (set cursors i v) i) (length g.ranks) (λ b m. at_row b (near i b) refl (same b m))))
        (λ (ne : a ≡ i → ⊥). other_rows a ne)
        (cases_eq a i)))

    -- it passed one adjacency
    pub looks_one : (j : ℕ) → j < length g.ranks → near i j ≡ true → turn i j ≡ slice_index cursors i → v ≡ slice_index cursors i + 1
        → ((b : ℕ) → b < length g.ranks → near i b ≡ true → turn i b ≡ turn i j → b ≡ j) → looks g (set cursors i v) ≡ looks g cursors + 1
    looks_one j lj adjacent here next only = sum_one (row cursors) (row (set cursors i v)) (length g.ranks) i (omega arith)
        (count_one (looks_from g cursors i) (looks_from g (set cursors i v) i) (length g.ranks) j lj
        (false_from_ne_true (looks_from g cursors i j) (λ t. let l : turn i j < slice_index cursors i =
        true_lt (turn i j) (slice_index cursors i) (and_parts (near i j) (nat_lt (turn i j) (slice_index cursors i)) t).1 in omega arith))
        (and_from (near i j) (nat_lt (turn i j) (slice_index (set cursors i v) i)) adjacent
        (lt_true (turn i j) (slice_index (set cursors i v) i) (let s : slice_index (set cursors i v) i ≡ v = at_same in omega arith)))
        (λ b lb ne. at_row b (near i b) refl (λ t. same_lt (turn i b) (slice_index cursors i) v next (λ e. ne (only b lb t (e ∙ sym here))))))
        (λ a l ne. other_rows a ne)

pub step_same : (g : Ground) (cursors : List ℕ) (q l : ℕ) → IsStep g cursors cursors q q l l
step_same g cursors q l = record { seen = λ p w s. s; work = omega arith; queued = omega arith; looked = omega arith }

pub step_trans : (g : Ground) (a b c : List ℕ) (qa qb qc la lb lc : ℕ) → IsStep g a b qa qb la lb → IsStep g b c qb qc lb lc → IsStep g a c qa qc la lc
step_trans g a b c qa qb qc la lb lc s t = record {
  seen = λ p w o. t.seen p w (s.seen p w o);
  work = (let x : work b ≤ work a = s.work in let y : work c ≤ work b = t.work in omega arith);
  queued = (let x : qb + seen_count a ≡ qa + seen_count b = s.queued in let y : qc + seen_count b ≡ qb + seen_count c = t.queued in omega arith);
  looked = (let x : lb + looks g a ≡ la + looks g b = s.looked in let y : lc + looks g b ≡ lb + looks g c = t.looked in omega arith);
}

module _ (g : Ground) (cursors : List ℕ) (long : length cursors ≡ length g.ranks) (p v : ℕ) (inside : IsOf g p) where
  place : p - g.first < length cursors
  place = let a : g.first ≤ p = inside.low in let b : p < g.first + length g.ranks = inside.high in omega arith

  seen_still : 0 < v → (x : ℕ) → IsOf g x → 0 < cursor_of g cursors x → 0 < cursor_of g (set cursors (p - g.first) v) x
  seen_still h x w l = ⊎_elim
      (λ (e : x - g.first ≡ p - g.first). subst (λ k. 0 < slice_index (set cursors (p - g.first) v) k) (sym e)
      (subst (λ c. 0 < c) (sym (get_or-set_same cursors (p - g.first) v 0 place)) h))
      (λ (ne : x - g.first ≡ p - g.first → ⊥). subst (λ c. 0 < c) (sym (get_or-set_other cursors (p - g.first) (x - g.first) v 0 ne)) l)
      (cases_eq (x - g.first) (p - g.first))

  -- a pixel is queued
  pub step_push : (q r l : ℕ) → cursor_of g cursors p ≡ 0 → v ≡ 1 → r ≡ q + 1 → IsStep g cursors (set cursors (p - g.first) v) q r l l
  step_push q r l z one e = record {
    seen = seen_still (omega arith);
    work = work_up cursors (p - g.first) v place (omega arith);
    queued = (let o : seen_count (set cursors (p - g.first) v) ≡ seen_count cursors + 1 = seen_one cursors (p - g.first) v place z (omega arith) in
        omega arith);
    looked = (let o : looks g (set cursors (p - g.first) v) ≡ looks g cursors = looks_same cursors (p - g.first) v place g long (λ b lb t.
        le_false (direction g.connect g.width (g.first + (p - g.first)) (g.first + b) + 1) (cursor_of g cursors p) (omega arith)
        ∙ sym (le_false (direction g.connect g.width (g.first + (p - g.first)) (g.first + b) + 1) v (omega arith))) in omega arith);
  }

  at_p : g.first + (p - g.first) ≡ p
  at_p = let a : g.first ≤ p = inside.low in omega arith

  -- an adjacency of p
  near_p : (b : ℕ) → b < length g.ranks → are_adjacent g.values g.width g.connect (g.first + (p - g.first)) (g.first + b) ≡ true
      → IsInner g.values g.width g.connect g.first (length g.ranks) p (g.first + b)
  near_p b l t = record {
    adjacent = subst (λ x. are_adjacent g.values g.width g.connect x (g.first + b) ≡ true) at_p t;
    one = inside;
    other =
        record { low = omega arith; high = omega arith };
  }

  turned_p : (n : ℕ) → direction g.connect g.width (g.first + (p - g.first)) n ≡ direction g.connect g.width p n
  turned_p n = ap (λ x. direction g.connect g.width x n) at_p

  -- a pixel that looked in each direction is finished
  pub step_done : (q l : ℕ) → 0 < g.width → cursor_of g cursors p ≡ direction_count g.connect + 1 → cursor_of g cursors p ≤ v
      → IsStep g cursors (set cursors (p - g.first) v) q q l l
  step_done q l wide all h = record {
    seen = seen_still (omega arith);
    work = work_up cursors (p - g.first) v place h;
    queued = (let o : seen_count (set cursors (p - g.first) v) ≡ seen_count cursors = seen_same cursors (p - g.first) v place (omega arith) (omega arith) in
        omega arith);
    looked = (let o : looks g (set cursors (p - g.first) v) ≡ looks g cursors = looks_same cursors (p - g.first) v place g long (λ b lb t.
        let d : direction g.connect g.width p (g.first + b) < direction_count g.connect =
        inner_direction g.values g.width g.connect g.first (length g.ranks) p (g.first + b) wide (near_p b lb t) in
        let e : direction g.connect g.width (g.first + (p - g.first)) (g.first + b) ≡ direction g.connect g.width p (g.first + b) = turned_p (g.first + b) in
        lt_true (direction g.connect g.width (g.first + (p - g.first)) (g.first + b) + 1) (cursor_of g cursors p) (omega arith)
        ∙ sym (lt_true (direction g.connect g.width (g.first + (p - g.first)) (g.first + b) + 1) v (omega arith))) in omega arith);
  }

  pub step_less : cursor_of g cursors p < v → v ≤ 10 → work (set cursors (p - g.first) v) < work cursors
  step_less l h = work_less cursors (p - g.first) v place l h

  -- a pixel looks in its next direction
  pub step_look : (q k l m : ℕ) → 0 < g.width → cursor_of g cursors p ≡ k + 1 → v ≡ k + 2 → IsAround g p k l m
      → IsStep g cursors (set cursors (p - g.first) v) q q l m
  step_look q k l m wide c e around = record {
    seen = seen_still (omega arith);
    work = work_up cursors (p - g.first) v place (omega arith);
    queued = (let o : seen_count (set cursors (p - g.first) v) ≡ seen_count cursors = seen_same cursors (p - g.first) v place (omega arith) (omega arith) in
        omega arith);
    looked = ⊎_elim
        (λ (same : (m ≡ l) × ((n : ℕ) → IsInner g.values g.width g.connect g.first (length g.ranks) p n → direction g.connect g.width p n ≡ k → ⊥)).
        missed same.0 same.1)
        (λ (more : (m ≡ l + 1) × ((n : ℕ) × (IsInner g.values g.width g.connect g.first (length g.ranks) p n × (direction g.connect g.width p n ≡ k)))). passed
        more.0 more.1.0 more.1.1.0 more.1.1.1)
        around.is;
  } where
    missed : m ≡ l → ((n : ℕ) → IsInner g.values g.width g.connect g.first (length g.ranks) p n → direction g.connect g.width p n ≡ k → ⊥)
        → m + looks g cursors ≡ l + looks g (set cursors (p - g.first) v)
    missed ml none = let o : looks g (set cursors (p - g.first) v) ≡ looks g cursors = looks_same cursors (p - g.first) v place g long (λ b lb t.
        same_lt (direction g.connect g.width (g.first + (p - g.first)) (g.first + b) + 1) (cursor_of g cursors p) v (omega arith)
        (λ z. none (g.first + b) (near_p b lb t)
        (let d : direction g.connect g.width (g.first + (p - g.first)) (g.first + b) ≡ direction g.connect g.width p (g.first + b) =
        turned_p (g.first + b) in omega arith))) in omega arith

    passed : m ≡ l + 1 → (n : ℕ) → IsInner g.values g.width g.connect g.first (length g.ranks) p n → direction g.connect g.width p n ≡ k
        → m + looks g cursors ≡ l + looks g (set cursors (p - g.first) v)
    passed ml n i d = let low : g.first ≤ n = i.other.low in let high : n < g.first + length g.ranks = i.other.high in
        let at_n : g.first + (n - g.first) ≡ n = omega arith in
        let dn : direction g.connect g.width (g.first + (p - g.first)) (g.first + (n - g.first)) ≡ k =
        subst₂ (λ x y. direction g.connect g.width x y ≡ k) (sym at_p) (sym at_n) d in
        let one : looks g (set cursors (p - g.first) v) ≡ looks g cursors + 1 = looks_one cursors (p - g.first) v place g long (n - g.first) (omega arith)
        (subst₂ (λ x y. are_adjacent g.values g.width g.connect x y ≡ true) (sym at_p) (sym at_n) i.adjacent) (omega arith) (omega arith)
        (λ b lb t z. let db : direction g.connect g.width (g.first + (p - g.first)) (g.first + b) ≡ direction g.connect g.width p (g.first + b) =
        turned_p (g.first + b) in
        let same : g.first + b ≡ n = direction_once g.connect g.width p (g.first + b) n wide
        (inner_near g.values g.width g.connect g.first (length g.ranks) p (g.first + b) (near_p b lb t))
        (inner_near g.values g.width g.connect g.first (length g.ranks) p n i) (omega arith) in omega arith) in omega arith
