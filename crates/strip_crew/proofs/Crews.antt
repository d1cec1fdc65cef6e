-- The seats of a crew, and the jobs that come out of a table.
use Rattle.std.proofs.Common.{◌≡◌, ℕ, zero, suc, ◌+◌, ◌-◌, ◌<◌, ◌≤◌, Bool, true, false, List, [], ◌∷◌, ◌++◌, All, length, get_or, set, take, drop, refl, sym}
use Rattle.std.proofs.Common.{ap, ◌∙◌, subst, arith, get_or-set_same, get_or-set_other}
use mathlib.Core.Logic.{dite}
use native.Mathlib.Decide.{ℕ_discrete}
use mathlib.Core.Option.{some, some-injective, some-ne-none}
use lib.ListN.{get_elem?}
use Rattle.strip_crew.specs.Counting.{fresh}
use Rattle.comp_tree.specs.declared.shape.Connect.{Connect}
use Rattle.comp_tree.specs.Raster.{Raster}
use Rattle.strip_flood.specs.Jobs.{JobView}
use Rattle.strip_crew.specs.Run.{Plan, Run, IsSized, plan_of, run_with, strips}
use Rattle.tree_join.specs.Cuts.{IsCut}
use Rattle.strip_crew.specs.Claims.{view, Seated, split_left, IsRunOver, AreReady}
use Rattle.strip_crew.specs.Workers.{AreFlooded}

module _ {A : Type 0} (P : A → Type 0) where
  pub all_on : (xs : List A) (x : A) → All P xs → P x → All P (xs ++ x ∷ [])
  all_on [] x each here zero d h = here
  all_on [] x each here (suc k) d h = absurd (omega arith)
  all_on (y ∷ ys) x each here zero d h = each 0 d (omega arith)
  all_on (y ∷ ys) x each here (suc k) d h = all_on ys x (λ i e l. each (suc i) e (omega arith)) here k d (omega arith)

  pub all_of : (xs ys : List A) → xs ≡ ys → All P ys → All P xs
  all_of xs ys e each = subst (All P) (sym e) each

  pub all_front : (ys : List A) (x : A) → All P (ys ++ x ∷ []) → All P ys
  all_front [] x each k d h = absurd (omega arith)
  all_front (y ∷ ys) x each zero d h = each 0 d (omega arith)
  all_front (y ∷ ys) x each (suc k) d h = all_front ys x (λ i e l. each (suc i) e (omega arith)) k d (omega arith)

  pub all_last : (ys : List A) (x : A) → All P (ys ++ x ∷ []) → P x
  all_last [] x each = each 0 x (omega arith)
  all_last (y ∷ ys) x each = all_last ys x (λ i e l. each (suc i) e (omega arith))

take_front : {A : Type 0} (xs ys : List A) (n : ℕ) → n ≡ length xs → take n (xs ++ ys) ≡ xs
take_front [] ys zero e = refl
take_front [] ys (suc n) e = absurd (omega arith)
take_front (x ∷ xs) ys zero e = absurd (omega arith)
take_front {A = A} (x ∷ xs) ys (suc n) e = ap (λ (l : List A). x ∷ l) (take_front xs ys n (omega arith))

-- what a Vec holds after all of it was lent as a slice
pub pasted : {A : Type 0} (old new : List A) (n : ℕ) → n ≡ length old → length new ≡ length old → take n (new ++ drop (length new) old) ≡ new
pasted old new n is same = take_front new (drop (length new) old) n (is ∙ sym same)

pub take_on : {A : Type 0} (xs : List A) (i : ℕ) (x : A) → get_elem? xs i ≡ some x → take (i + 1) xs ≡ take i xs ++ x ∷ []
take_on [] i x e = absurd (some-ne-none x (sym e))
take_on (y ∷ ys) zero x e = ap (λ z. z ∷ []) (some-injective y x e)
take_on {A = A} (y ∷ ys) (suc i) x e = let n : suc i + 1 ≡ suc (i + 1) =
    omega arith in ap (λ (k : ℕ). take k (y ∷ ys)) n ∙ ap (λ (l : List A). y ∷ l) (take_on ys i x e)

-- after place i was emptied, the later places are full and the others empty
pub emptied_later : (fs : List Bool) (i n : ℕ) → ((k : ℕ) → i ≤ k → k < n → get_or fs k false ≡ true) → (k : ℕ) → i + 1 ≤ k → k < n
    → get_or (set fs i false) k false ≡ true
emptied_later fs i n full k low high = get_or-set_other fs i k false false (λ z. omega arith) ∙ full k (omega arith) high

pub emptied_before : (fs : List Bool) (i n : ℕ) → i < n → n ≡ length fs → ((k : ℕ) → k < i → get_or fs k false ≡ false) → (k : ℕ) → k < i + 1
    → get_or (set fs i false) k false ≡ false
emptied_before fs i n inside is empty k low = dite (ℕ_discrete k i)
    (λ e. subst (λ (x : ℕ). get_or (set fs i false) x false ≡ false) (sym e) (get_or-set_same fs i false false (omega arith)))
    (λ ne. get_or-set_other fs i k false false (λ z. ne (omega arith)) ∙ empty k (omega arith))

-- the first seat after a split
pub split_keeps : (run : Run) (m m' : Seated) → m ≡ (view (fresh m.0.claim.due) run, []) → m' ≡ (split_left m.0, m.1)
    → m' ≡ (view (fresh (m.0.claim.due - 1)) run, [])
split_keeps run m m' is made = made ∙ ap (λ (x : Seated). (split_left x.0, x.1)) is

pub due_only : (run : Run) (m : Seated) (n : ℕ) → m ≡ (view (fresh n) run, []) → m ≡ (view (fresh m.0.claim.due) run, [])
due_only run m n is = is ∙ ap (λ (x : ℕ). (view (fresh x) run, [])) (sym (ap (λ (x : Seated). x.0.claim.due) is))

-- a cut has no more strips than rows
cut_climbs : (height : ℕ) (cut : List ℕ) → IsCut height cut → (i : ℕ) → i < length cut → i ≤ get_or cut i 0
cut_climbs height cut c zero h = omega arith
cut_climbs height cut c (suc i) h = let r = c.rises i (omega arith) in let e : i + 1 ≡ suc i =
    omega arith in let s : get_or cut (i + 1) 0 ≡ get_or cut (suc i) 0 = ap (λ (x : ℕ). get_or cut x 0) e in
    let more = cut_climbs height cut c i (omega arith) in omega arith

pub cut_fits : (height : ℕ) (cut : List ℕ) → IsCut height cut → length cut ≤ height
cut_fits height cut c = let n : ℕ = length cut - 1 in let some_strip = c.some in let a = cut_climbs height cut c n (omega arith) in let b =
    c.below n (omega arith) in omega arith

-- what a run's fixed data say of it
module _ (plane : Raster) (connect : Connect) (cut : List ℕ) (workers : ℕ) (run : Run) (is : run ≡ run_with plane connect cut workers) where
  plan_same : run.plan ≡ plan_of plane connect cut
  plan_same = ap (λ (r : Run). r.plan) is

  pub run_sized : IsCut plane.shape.height cut → 0 < workers → workers ≤ 64 → IsSized (strips run) run.workers
  run_sized cuts some_worker most_workers = subst (λ (r : Run). IsSized (strips r) r.workers) (sym is) (record {
    some_strip = cuts.some;
    most_strips = omega (arith, cut_fits plane.shape.height cut cuts, plane.shape.within_limits.few_rows);
    some_worker = some_worker;
    most_workers = most_workers;
  })

  pub run_ready : (jobs : List JobView) → AreReady (plan_of plane connect cut) 0 (length cut) jobs → AreReady run.plan 0 (strips run) jobs
  run_ready jobs ready = subst (λ (p : Plan). AreReady p 0 (length p.cut) jobs) (sym plan_same) ready

  pub run_over : IsRunOver run plane
  run_over = ap (λ (p : Plan). p.plane) plan_same

  pub run_by : run.workers ≡ workers
  run_by = ap (λ (r : Run). r.workers) is

  pub run_flooded : (jobs : List JobView) → AreFlooded run.plan jobs → AreFlooded (plan_of plane connect cut) jobs
  run_flooded jobs flooded = subst (λ (p : Plan). AreFlooded p jobs) plan_same flooded
