-- Each step keeps the rule of the claims table.
use Rattle.std.proofs.Common.{◌≡◌, ℕ, zero, suc, ◌+◌, ◌-◌, ◌%◌, ◌^◌, ◌<◌, ◌≤◌, ◌≢◌, ◌⊎◌, Bool, true, false, List, [], ◌∷◌, ◌++◌, map, length}
use Rattle.std.proofs.Common.{get_or, set, sym, refl, ap, ◌∙◌, subst, ⊎_elim, arith, length-set, get_or-set_same, get_or-set_other}
use Rattle.std.proofs.Common.{Some, None, true≢false}
use Rattle.std.proofs.lemmas.List.{length-map}
use mathlib.Core.Logic.{dite}
use native.Mathlib.Decide.{ℕ_discrete, dec_le}
use mathlib.Core.Option.{Option, some, none, some-injective, some-ne-none}
use lib.ListN.{get_elem?}
use Rattle.atomic_table.specs.Table.{State, step, Act, keeps, takes, gives, Valid, carried_after, stepped, opening, Final, Seen, Allows, Splits, Joins}
use Rattle.atomic_table.proofs.Lists.{at_set, set_here, set_else, at_snoc, at_map}
use Rattle.strip_flood.specs.Jobs.{JobView}
use Rattle.strip_crew.specs.Run.{Run, strips, IsSized, IsJobOf}
use Rattle.strip_crew.specs.Counting.{SeatClaims, fresh, spent, after_claim, after_pass, after_give_back, after_split, after_join, total_weight, holds_of}
use Rattle.strip_crew.specs.Counting.{one_if_is, Counts}
use Rattle.strip_crew.specs.Core.{Waiting, Core, seat_at, Reached}
use Rattle.strip_crew.specs.Claims.{view, claim_of, Seated, IsHome, RuleHolds, opening_view, above_all, claim_step, give_step, split_left, split_right}
use Rattle.strip_crew.specs.Claims.{joined_view, spent_view, SettleLaw, AreReady}
use Rattle.strip_crew.specs.Workers.{AreFlooded, HasSettled}
use Rattle.strip_crew.specs.declared.view.View.{View}
use Rattle.strip_crew.proofs.Lists.{in_range, total_append, total_set, only, only_same, only_other, map_set, map_append}
use Rattle.strip_crew.proofs.Counting.{inside, hand_inside, word0_le, word1_le, nothing, word0_is, word1_is, each_once, held_by_none, claims_counts}
use Rattle.strip_crew.proofs.Counting.{passes_counts, gives_counts, splits_counts, joins_counts}
use Rattle.strip_crew.proofs.Core.{starts_counts, ended, or_at}
use Rattle.strip_crew.proofs.History.{claims_reached, passes_reached, gives_reached, splits_reached, joins_reached}

abbrev St : Type 0
St = State JobView View

abbrev board : List ℕ → List (Option JobView) → List View → St
board ws hs vs = record { words = ws; homes = hs; views = vs }

-- the parts of the rule that read the words and the views, at plain variables
abbrev Read : Run → List (Option JobView) → ℕ → ℕ → List SeatClaims → Type 0
Read run hs w0 w1 cs =
    Counts (strips run) run.workers w0 w1 cs
    × ((i : ℕ) → w0 ≤ i → i < strips run → IsHome run hs i false)
    × ((i : ℕ) → i < w0 → i < strips run → total_weight (holds_of i) cs ≡ 0 → IsHome run hs i true)
    × Reached (strips run) run.workers w0 w1 cs

abbrev Same : Run → List View → Type 0
Same run vs = (j : ℕ) (v : View) → get_elem? vs j ≡ some v → v.claim.joined ≡ false → v.of ≡ run

reads : (run : Run) (s : St) → RuleHolds run s → Read run s.homes (get_or s.words 0 0) (get_or s.words 1 0) (map claim_of s.views)
reads run s o = (o.counts, o.waiting, o.done, o.history)

made : (run : Run) (ws : List ℕ) (hs : List (Option JobView)) (vs : List View) (w0 w1 : ℕ) (cs : List SeatClaims)
    → IsSized (strips run) run.workers → length ws ≡ 2 → length hs ≡ strips run → get_or ws 0 0 ≡ w0 → get_or ws 1 0 ≡ w1 → map claim_of vs ≡ cs
    → Read run hs w0 w1 cs → Same run vs → RuleHolds run (board ws hs vs)
made run ws hs vs w0 w1 cs sized wide deep is0 is1 are o same =
    let r : Read run hs (get_or ws 0 0) (get_or ws 1 0) (map claim_of vs) =
    subst (λ (x : ℕ). Read run hs x (get_or ws 1 0) (map claim_of vs)) (sym is0)
    (subst (λ (x : ℕ). Read run hs w0 x (map claim_of vs)) (sym is1) (subst (λ (x : List SeatClaims). Read run hs w0 w1 x) (sym are) o)) in
    record { sized = sized; wide = wide; deep = deep; counts = r.0; waiting = r.1; done = r.2; same_run = same; history = r.3 }

same_set : (run : Run) (vs : List View) (j : ℕ) (w : View) → (w.claim.joined ≡ false → w.of ≡ run) → Same run vs → Same run (set vs j w)
same_set run vs j w is same i u at free =
    ⊎_elim (λ (t : (i ≡ j) × (w ≡ u)). subst (λ (x : View). x.claim.joined ≡ false → x.of ≡ run) t.1 is free)
    (λ (t : (i ≢ j) × (get_elem? vs i ≡ some u)). same i u t.1 free) (at_set vs j i w u at)

same_snoc : (run : Run) (vs : List View) (w : View) → (w.claim.joined ≡ false → w.of ≡ run) → Same run vs → Same run (vs ++ w ∷ [])
same_snoc run vs w is same i u at free =
    ⊎_elim (λ (t : get_elem? vs i ≡ some u). same i u t free)
    (λ (t : w ≡ u). subst (λ (x : View). x.claim.joined ≡ false → x.of ≡ run) t is free) (at_snoc vs w u i at)

still_home : (run : Run) (hs : List (Option JobView)) (i r : ℕ) (h : Option JobView) (b : Bool) → r ≢ i → IsHome run hs r b → IsHome run (set hs i h) r b
still_home run hs i r h b ne t = (t.0, set_else hs i r h ne ∙ t.1, t.2, t.3)

top_le : (xs : List ℕ) (w : ℕ) → ((x : ℕ) → 0 < total_weight (only x) xs → x < w) → above_all xs ≤ w
top_le [] w each = omega arith
top_le (x ∷ xs) w each = let here = each x (omega (arith, only_same x)) in let further = top_le xs w (λ y some_there. each y (omega arith)) in omega arith

-- what `Allows` asks of one state
abbrev Goes : Run → St → ℕ → ℕ → ℕ → Seated → (ℕ → Seated → Type 0) → Type 0
Goes run s i k id m then = (w : View) × (a : Act JobView) × Valid s.homes m.1 a × RuleHolds run (stepped s i k id m.1 w a)
    × then (get_or s.words i 0) (w, carried_after m.1 a)

-- the first word becomes one more
module _ (run : Run) (s : St) (o : RuleHolds run s) (id : ℕ) (m : Seated) (at : get_elem? s.views id ≡ some m.0) (free : m.0.claim.joined ≡ false)
    (is : m.0.of ≡ run) where
  abbrev n : ℕ
  n = strips run

  abbrev k : ℕ
  k = run.workers

  abbrev w0 : ℕ
  w0 = get_or s.words 0 0

  abbrev w1 : ℕ
  w1 = get_or s.words 1 0

  abbrev cs : List SeatClaims
  cs = map claim_of s.views

  abbrev c : SeatClaims
  c = m.0.claim

  there : get_elem? cs id ≡ some c
  there = at_map claim_of s.views id m.0 at

  first_next : (w0 + 1) % 2 ^ 64 ≡ w0 + 1
  first_next = let a = word0_le n k w0 w1 cs o.counts in let b = o.sized.most_strips in let d = o.sized.most_workers in omega arith

  second_next : (w1 + 1) % 2 ^ 64 ≡ w1 + 1
  second_next = let a = word1_le n k w0 w1 cs o.counts in let b = o.sized.most_strips in omega arith

  abbrev ws0 : List ℕ
  ws0 = set s.words 0 ((w0 + 1) % 2 ^ 64)

  abbrev ws1 : List ℕ
  ws1 = set s.words 1 ((w1 + 1) % 2 ^ 64)

  claims_goes : c.hand ≡ None → 0 < c.due → w0 < n → Goes run s 0 ((w0 + 1) % 2 ^ 64) id m (claim_step (step n 0 1 0 none) m)
  claims_goes empty due near =
      let t = o.waiting w0 (omega arith) near in let job : JobView = t.0 in
      let w : View = view (after_claim c w0) m.0.of in
      let moved : (x : ℕ) → total_weight (holds_of x) (set cs id (after_claim c w0)) ≡ total_weight (holds_of x) cs + only x w0 =
      λ x. omega (arith, total_set (holds_of x) cs id c (after_claim c w0) there, ap (one_if_is x) empty) in (
        w,
        takes w0 job,
        t.1,
        made run ws0 (set s.homes w0 none) (set s.views id w) (w0 + 1) w1 (set cs id (after_claim c w0)) o.sized
            (length-set s.words 0 ((w0 + 1) % 2 ^ 64) ∙ o.wide) (length-set s.homes w0 none ∙ o.deep)
            (get_or-set_same s.words 0 ((w0 + 1) % 2 ^ 64) 0 (omega (arith, o.wide)) ∙ first_next)
            (get_or-set_other s.words 0 1 ((w0 + 1) % 2 ^ 64) 0 (λ z. omega arith)) (map_set claim_of s.views id w) (
              claims_counts n k w0 w1 cs o.counts id c there empty due near,
              (λ i far in_strips. still_home run s.homes w0 i none false (λ z. omega arith) (o.waiting i (omega arith) in_strips)),
              (λ i low in_strips none_holds. dite (ℕ_discrete i w0)
                  (λ same. absurd (omega (arith, moved i, ap (only i) same, only_same i, ap (λ (y : ℕ). only i y) (sym same))))
                  (λ ne. still_home run s.homes w0 i none true ne (o.done i (omega arith) in_strips (omega (arith, moved i))))),
              claims_reached n k w0 w1 cs o.history id c there free empty due near,
            )
            (same_set run s.views id w (λ _. is) o.same_run),
        (
          ap strips (sym is),
          subst (λ (r : Run). strips r ≤ 65535) (sym is) o.sized.most_strips,
          (λ _. (
            job,
            refl,
            subst (λ (r : Run). IsJobOf r.plan w0 job) (sym is) t.2,
            t.3,
            top_le c.claimed w0 (λ x some_claimed. (inside n k w0 w1 cs o.counts id c x there some_claimed).0),
          )),
          λ far. absurd (omega (arith, near, ap strips is)),
        ),
      )

  passes_goes : c.hand ≡ None → 0 < c.due → n ≤ w0 → Goes run s 0 ((w0 + 1) % 2 ^ 64) id m (claim_step (step n 0 1 0 none) m)
  passes_goes empty due far =
      let w : View = view (after_pass c) m.0.of in
      let moved : (x : ℕ) → total_weight (holds_of x) (set cs id (after_pass c)) ≡ total_weight (holds_of x) cs =
      λ x. omega (arith, total_set (holds_of x) cs id c (after_pass c) there) in (
        w,
        keeps,
        tt,
        made run ws0 s.homes (set s.views id w) (w0 + 1) w1 (set cs id (after_pass c)) o.sized (length-set s.words 0 ((w0 + 1) % 2 ^ 64) ∙ o.wide) o.deep
            (get_or-set_same s.words 0 ((w0 + 1) % 2 ^ 64) 0 (omega (arith, o.wide)) ∙ first_next)
            (get_or-set_other s.words 0 1 ((w0 + 1) % 2 ^ 64) 0 (λ z. omega arith)) (map_set claim_of s.views id w) (
              passes_counts n k w0 w1 cs o.counts id c there empty due far,
              (λ i further in_strips. o.waiting i (omega arith) in_strips),
              (λ i low in_strips none_holds. o.done i (omega arith) in_strips (omega (arith, moved i))),
              passes_reached n k w0 w1 cs o.history id c there free empty due far,
            )
            (same_set run s.views id w (λ _. is) o.same_run),
        (
          ap strips (sym is),
          subst (λ (r : Run). strips r ≤ 65535) (sym is) o.sized.most_strips,
          (λ near. absurd (omega (arith, far, ap strips is))),
          λ _. refl,
        ),
      )

  gives_goes : (i : ℕ) (job : JobView) (more : List (ℕ × JobView)) → m.1 ≡ (i, job) ∷ more → c.hand ≡ Some i → IsJobOf m.0.of.plan i job → job.flooded ≡ true
      → Goes run s 1 ((w1 + 1) % 2 ^ 64) id (m.0, (i, job) ∷ more) (give_step (step n 1 1 0 none) (m.0, (i, job) ∷ more))
  gives_goes i job more held has its flooded =
      let mine = hand_inside n k w0 w1 cs o.counts id c i there has in
      let w : View = view (after_give_back c) m.0.of in let hs : List (Option JobView) = set s.homes i (some job) in
      let moved : (x : ℕ) → total_weight (holds_of x) (set cs id (after_give_back c)) + only x i ≡ total_weight (holds_of x) cs =
      λ x. omega (arith, total_set (holds_of x) cs id c (after_give_back c) there, ap (one_if_is x) has) in (
        w,
        gives,
        tt,
        made run ws1 hs (set s.views id w) w0 (w1 + 1) (set cs id (after_give_back c)) o.sized (length-set s.words 1 ((w1 + 1) % 2 ^ 64) ∙ o.wide)
            (length-set s.homes i (some job) ∙ o.deep)
            (get_or-set_other s.words 1 0 ((w1 + 1) % 2 ^ 64) 0 (λ z. omega arith))
            (get_or-set_same s.words 1 ((w1 + 1) % 2 ^ 64) 0 (omega (arith, o.wide)) ∙ second_next) (map_set claim_of s.views id w) (
              gives_counts n k w0 w1 cs o.counts id c there i has,
              (λ x far in_strips. still_home run s.homes i x (some job) false (λ z. omega (arith, mine.0)) (o.waiting x far in_strips)),
              (λ x low in_strips none_holds. dite (ℕ_discrete x i)
                  (λ same. subst (λ (y : ℕ). IsHome run hs y true) (sym same)
                  (job, set_here s.homes i (some job) (omega (arith, mine.1, o.deep)), subst (λ (r : Run). IsJobOf r.plan i job) is its, flooded))
                  (λ ne. still_home run s.homes i x (some job) true ne (o.done x low in_strips (omega (arith, moved x, only_other x i (λ z. ne (sym z))))))),
              gives_reached n k w0 w1 cs o.history id c there free i has,
            )
            (same_set run s.views id w (λ _. is) o.same_run),
        refl,
      )

pub claims_allowed : (run : Run) (slots id : ℕ) (m : Seated) → m.0.claim.joined ≡ false → m.0.claim.hand ≡ None → 0 < m.0.claim.due
    → Allows (RuleHolds run) slots id m 0 (λ y. (y + 1) % 2 ^ 64) (claim_step (step slots 0 1 0 none) m)
claims_allowed run slots id m free empty due s o deep at small =
    let is : m.0.of ≡ run = o.same_run id m.0 at free in
    let same : strips run ≡ slots = sym o.deep ∙ deep in
    subst (λ (x : ℕ). Goes run s 0 ((get_or s.words 0 0 + 1) % 2 ^ 64) id m (claim_step (step x 0 1 0 none) m)) same
    (dite (dec_le (strips run) (get_or s.words 0 0)) (λ far. passes_goes run s o id m at free is empty due far)
    (λ near. claims_goes run s o id m at free is empty due (omega arith)))

pub gives_allowed : (run : Run) (slots id : ℕ) (m : Seated) (i : ℕ) (job : JobView) (more : List (ℕ × JobView)) → m.1 ≡ (i, job) ∷ more
    → m.0.claim.joined ≡ false → m.0.claim.hand ≡ Some i → IsJobOf m.0.of.plan i job → job.flooded ≡ true
    → Allows (RuleHolds run) slots id m 1 (λ y. (y + 1) % 2 ^ 64) (give_step (step slots 1 1 0 none) m)
gives_allowed run slots id m i job more held free has its flooded =
    subst (λ (l : List (ℕ × JobView)). Allows (RuleHolds run) slots id (m.0, l) 1 (λ y. (y + 1) % 2 ^ 64)
    (give_step (step slots 1 1 0 none) (m.0, l))) (sym held)
    (λ s o deep at small. gives_goes run s o id (m.0, (i, job) ∷ more) at free (o.same_run id m.0 at free) i job more refl has its flooded)

pub splits_allowed : (run : Run) (id : ℕ) (v : View) → v.claim.joined ≡ false → v.claim.claimed ≡ [] → 0 < v.claim.due
    → Splits (RuleHolds run) id v (split_left v) (split_right v)
splits_allowed run id v free empty due s o at =
    let n : ℕ = strips run in let k : ℕ = run.workers in let w0 : ℕ = get_or s.words 0 0 in let w1 : ℕ = get_or s.words 1 0 in let cs : List SeatClaims =
    map claim_of s.views in let c : SeatClaims = v.claim in
    let is : v.of ≡ run = o.same_run id v at free in let there : get_elem? cs id ≡ some c = at_map claim_of s.views id v at in
    let l : View = split_left v in let r : View = split_right v in let vs : List View = set s.views id l in let ds : List SeatClaims =
    set cs id (after_split c) in
    let are : map claim_of (vs ++ r ∷ []) ≡ ds ++ fresh 1 ∷ [] =
    map_append claim_of vs (r ∷ []) ∙ ap (λ (x : List SeatClaims). x ++ fresh 1 ∷ []) (map_set claim_of s.views id l) in
    let moved : (x : ℕ) → total_weight (holds_of x) (ds ++ fresh 1 ∷ []) ≡ total_weight (holds_of x) cs =
    λ x. omega (arith, total_append (holds_of x) ds (fresh 1 ∷ []), total_set (holds_of x) cs id c (after_split c) there) in
    made run s.words s.homes (vs ++ r ∷ []) w0 w1 (ds ++ fresh 1 ∷ []) o.sized o.wide o.deep refl refl are (
      splits_counts n k w0 w1 cs o.counts id c there empty due,
      o.waiting,
      (λ i low in_strips none_holds. o.done i low in_strips (omega (arith, moved i))),
      splits_reached n k w0 w1 cs o.history id c there free empty due,
    )
    (same_snoc run vs r (λ _. is) (same_set run s.views id l (λ _. is) o.same_run))

pub joins_allowed : (run : Run) (id : ℕ) (v : View) (other : ℕ) (u : View) → v.claim.joined ≡ false → u.claim.joined ≡ false → v.claim.hand ≡ None
    → u.claim.hand ≡ None → Joins (RuleHolds run) id v other u (joined_view v u) spent_view
joins_allowed run id v other u free free' empty empty' s o at apart them =
    let n : ℕ = strips run in let k : ℕ = run.workers in let w0 : ℕ = get_or s.words 0 0 in let w1 : ℕ = get_or s.words 1 0 in let cs : List SeatClaims =
    map claim_of s.views in let c : SeatClaims = v.claim in let b : SeatClaims = u.claim in
    let is : v.of ≡ run = o.same_run id v at free in let there : get_elem? cs id ≡ some c = at_map claim_of s.views id v at in
    let w : View = joined_view v u in let vs : List View = set s.views id w in let d : SeatClaims = after_join c b in let ds : List SeatClaims = set cs id d in
    let are : map claim_of vs ≡ ds = map_set claim_of s.views id w in
    let them' : get_elem? ds other ≡ some b = subst (λ (x : List SeatClaims). get_elem? x other ≡ some b) are (at_map claim_of vs other u them) in
    let was : get_elem? cs other ≡ some b = sym (set_else cs id other d apart) ∙ them' in
    let all : map claim_of (set vs other spent_view) ≡ set ds other spent =
    map_set claim_of vs other spent_view ∙ ap (λ (x : List SeatClaims). set x other spent) are in
    let moved : (x : ℕ) → total_weight (holds_of x) (set ds other spent) ≡ total_weight (holds_of x) cs =
    λ x. omega (
      arith,
      total_set (holds_of x) cs id c d there,
      total_set (holds_of x) ds other b spent them',
      ap (one_if_is x) empty,
      ap (one_if_is x) empty',
    ) in
    made run s.words s.homes (set vs other spent_view) w0 w1 (set ds other spent) o.sized o.wide o.deep refl refl all (
      joins_counts n k w0 w1 cs o.counts id c there other b them' apart empty empty',
      o.waiting,
      (λ i low in_strips none_holds. o.done i low in_strips (omega (arith, moved i))),
      joins_reached n k w0 w1 cs o.history id c there free other b was free' apart empty empty',
    )
    (same_set run vs other spent_view (λ h. absurd (true≢false h)) (same_set run s.views id w (λ _. is) o.same_run))

at_some : {A : Type 0} (l : List A) (i : ℕ) → i < length l → (a : A) × (get_elem? l i ≡ some a)
at_some [] i h = absurd (omega arith)
at_some (x ∷ xs) zero h = (x, refl)
at_some (x ∷ xs) (suc i) h = at_some xs i (omega arith)

pub starts : (run : Run) (jobs : List JobView) → IsSized (strips run) run.workers → AreReady run.plan 0 (strips run) jobs
    → RuleHolds run (opening (0 ∷ 0 ∷ []) jobs (opening_view run))
starts run jobs sized ready =
    let n : ℕ = strips run in let k : ℕ = run.workers in
    made run (0 ∷ 0 ∷ []) (map some jobs) (opening_view run ∷ []) 0 0 (fresh k ∷ []) sized refl
    (length-map jobs some ∙ (let e = ready.count in omega arith)) refl refl refl (
      starts_counts n k,
      (λ i far in_strips. let t = at_some jobs i (let e = ready.count in omega arith) in let has = ready.each i t.0 t.1 in
          (t.0, at_map some jobs i t.0 t.1, subst (λ (x : ℕ). IsJobOf run.plan x t.0) (let e : 0 + i ≡ i = omega arith in e) has.0, has.1)),
      (λ i low in_strips none_holds. absurd (omega arith)),
      record { events = []; statuses = Rattle.std.proofs.Common.replicate n Waiting; leads = refl },
    )
    (same_snoc run [] (opening_view run) (λ _. refl) (λ i v found _. absurd (some-ne-none v (sym found))))

pub settles : SettleLaw
settles run s j v o at all empty =
    let n : ℕ = strips run in let k : ℕ = run.workers in let w0 : ℕ = get_or s.words 0 0 in let w1 : ℕ = get_or s.words 1 0 in let cs : List SeatClaims =
    map claim_of s.views in let c : SeatClaims = v.claim in
    let there : get_elem? cs j ≡ some c = at_map claim_of s.views j v at in
    let far : w0 ≡ n + k = word0_is n k w0 w1 cs o.counts j c there all o.sized.some_worker in
    let h = o.history in let d : Core = record { word0 = w0; word1 = w1; seats = cs; strips = h.statuses } in
    let it : seat_at d j ≡ c = or_at cs j c spent there in
    let ones = ended n k h.events d h.leads j o.sized.some_worker
    (in_range cs j c there, ap (λ (x : SeatClaims). x.past) it ∙ all, ap (λ (x : SeatClaims). x.hand) it ∙ empty) in
    record {
      others = λ i u ne found. nothing n k w0 w1 cs o.counts j c there all i u.claim ne (at_map claim_of s.views i u found);
      word0 = far;
      word1 = word1_is n k w0 w1 cs o.counts j c there all empty o.sized.some_worker;
      once = each_once n k w0 w1 cs o.counts j c there all o.sized.some_worker;
      home = λ i in_strips. o.done i (omega (arith, far)) in_strips (held_by_none n k w0 w1 cs o.counts j c there all empty i);
      events = record { reached = h; claimed_once = λ i in_strips. (ones i in_strips).0; given_once = λ i in_strips. (ones i in_strips).1 };
    }

-- at the close, the slots have the jobs, flooded
pub closes : (run : Run) (id : ℕ) (v : View) (ws : List ℕ) (jobs : List JobView) → Final (Seen (RuleHolds run) id v) ws jobs → v.claim.past ≡ run.workers
    → v.claim.hand ≡ None → AreFlooded run.plan jobs
closes run id v ws jobs t all empty =
    let s = t.0 in let o : RuleHolds run s = t.1.0 in let z = settles run s id v o t.1.1 all empty in
    let long : length jobs ≡ strips run = sym t.3 ∙ o.deep in
    record {
      count = long;
      each = λ i job found.
          let x = z.home i (let r = in_range jobs i job found in omega arith) in let same : x.0 ≡ job = some-injective x.0 job (sym (t.4 i x.0 x.1) ∙ found) in
          (subst (λ (y : JobView). IsJobOf run.plan i y) same x.2, ap (λ (y : JobView). y.flooded) (sym same) ∙ x.3);
    }

two_words : (ws : List ℕ) (a b : ℕ) → length ws ≡ 2 → get_or ws 0 0 ≡ a → get_or ws 1 0 ≡ b → ws ≡ a ∷ b ∷ []
two_words [] a b n x y = absurd (omega arith)
two_words (w ∷ []) a b n x y = absurd (omega arith)
two_words (w ∷ u ∷ []) a b n x y = ap (λ (k : ℕ). k ∷ u ∷ []) x ∙ ap (λ (k : ℕ). a ∷ k ∷ []) y
two_words (w ∷ u ∷ v ∷ vs) a b n x y = absurd (omega arith)

pub has_settled : (run : Run) (id : ℕ) (v : View) (ws : List ℕ) (jobs : List JobView) → Final (Seen (RuleHolds run) id v) ws jobs → v.claim.past ≡ run.workers
    → v.claim.hand ≡ None → HasSettled run ws jobs
has_settled run id v ws jobs t all empty =
    let o : RuleHolds run t.0 = t.1.0 in let z = settles run t.0 id v o t.1.1 all empty in
    record {
      state = t.0;
      seat = id;
      seen = v;
      settled = z;
      words_are = sym t.2 ∙ two_words t.0.words (strips run + run.workers) (strips run) o.wide z.word0 z.word1;
      jobs_are = closes run id v ws jobs t all empty;
    }
