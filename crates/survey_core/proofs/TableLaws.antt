-- A field after some commands, by the last of them that names it.
use Rattle.std.proofs.Common.{◌≡◌, ◌≢◌, ◌∙◌, ℕ, ◌+◌, Bool, true, false, not, cond, ◌||◌, List, [], ◌∷◌, ◌++◌, drop, Some, None, refl, rules, sym, ap}
use Rattle.std.proofs.Common.{subst, ℤ, Ordering, Less, Equal, Greater, is_eq}
use Rattle.std.specs.Prelude.{Option, is_some}
use Rattle.std.specs.List.{list_any}
use Rattle.std.specs.Ordering.{match_ordering}
use Rattle.std.specs.Str.{bytes_eq}
use Rattle.std.proofs.lemmas.List.{drop-drop}
use Rattle.survey_core.specs.declared.words.Command.{Command}
use Rattle.survey_core.specs.declared.words.Command.TheVariants.{Add, Drop, List as Listing, Brightest}
use Rattle.survey_core.specs.declared.fault.Stop.{Stop}
use Rattle.survey_core.specs.declared.fault.Stop.TheVariants.{Refused}
use Rattle.survey_core.specs.declared.fault.Fault.TheVariants.{NoSuchField}
use Rattle.survey_core.specs.Fields.{name_cmp}
use Rattle.survey_core.specs.Tables.{Table, cells_of_field, put, without_field}
use Rattle.survey_core.specs.Catalogues.{Reading, accepted, rejected, catalogue_in}
use Rattle.survey_core.specs.Sessions.{Outcome, effect, added, changes, fails, followed_by, joined_outcomes, joined_unless, session}
use Rattle.survey_core.specs.Laws.{is_on, NoneIsOn, UnnamedFieldsStay, LastAddIsKept, LastDropIsKept, TablesBeforeAStopAreKept}
use Rattle.survey_core.proofs.TableLemmas.{same_name, name_itself}
use Rattle.survey_core.proofs.Going.{session_app, session_stops}

-- ---- one change

not_same : (a b : List ℕ) → a ≢ b → is_eq (name_cmp a b) ≡ false
not_same a b other = by (name_cmp a b) refl
  where
    by : (o : Ordering) → name_cmp a b ≡ o → is_eq o ≡ false
    by Less e = refl
    by Equal e = absurd (other (same_name a b e))
    by Greater e = refl

put_here : (field : List ℕ) (cells : List ℤ) (ts : List Table) → cells_of_field field (put field cells ts) ≡ Some cells
put_here field cells [] = rw (name_itself field) refl
put_here field cells (t ∷ ts) = by (name_cmp t.0 field) refl (put_here field cells ts)
  where
    by : (o : Ordering) → name_cmp t.0 field ≡ o → cells_of_field field (put field cells ts) ≡ Some cells
        → cells_of_field field (match_ordering o (t ∷ put field cells ts) ((field, cells) ∷ ts) ((field, cells) ∷ t ∷ ts)) ≡ Some cells
    by Less e more = rw e more
    by Equal e more = rw (name_itself field) refl
    by Greater e more = rw (name_itself field) refl

put_other : (field other : List ℕ) (cells : List ℤ) (ts : List Table) → field ≢ other → cells_of_field other (put field cells ts) ≡ cells_of_field other ts
put_other field other cells [] differs = rw (not_same field other differs) refl
put_other field other cells (t ∷ ts) differs = by (name_cmp t.0 field) refl (put_other field other cells ts differs)
  where
    by : (o : Ordering) → name_cmp t.0 field ≡ o → cells_of_field other (put field cells ts) ≡ cells_of_field other ts
        → cells_of_field other (match_ordering o (t ∷ put field cells ts) ((field, cells) ∷ ts) ((field, cells) ∷ t ∷ ts)) ≡ cells_of_field other (t ∷ ts)
    by Less e more = ap (λ o. cond (is_eq (name_cmp t.0 other)) (Some t.1) o) more
    by Equal e more =
        let same = same_name t.0 field e in
        let first : is_eq (name_cmp t.0 other) ≡ false = not_same t.0 other (λ h. differs (sym same ∙ h)) in
        rw (not_same field other differs, first) refl
    by Greater e more = rw (not_same field other differs) refl

gone : (field : List ℕ) (ts : List Table) → cells_of_field field (without_field field ts) ≡ None
gone field [] = refl
gone field (t ∷ ts) = by (name_cmp t.0 field) refl (gone field ts)
  where
    by : (o : Ordering) → name_cmp t.0 field ≡ o → cells_of_field field (without_field field ts) ≡ None
        → cells_of_field field (cond (not (is_eq o)) (t ∷ without_field field ts) (without_field field ts)) ≡ None
    by Less e more = rw e more
    by Equal e more = more
    by Greater e more = rw e more

without_other : (field other : List ℕ) (ts : List Table) → field ≢ other → cells_of_field other (without_field field ts) ≡ cells_of_field other ts
without_other field other [] differs = refl
without_other field other (t ∷ ts) differs = by (name_cmp t.0 field) refl (without_other field other ts differs)
  where
    by : (o : Ordering) → name_cmp t.0 field ≡ o → cells_of_field other (without_field field ts) ≡ cells_of_field other ts
        → cells_of_field other (cond (not (is_eq o)) (t ∷ without_field field ts) (without_field field ts)) ≡ cells_of_field other (t ∷ ts)
    by Less e more = ap (λ o. cond (is_eq (name_cmp t.0 other)) (Some t.1) o) more
    by Equal e more =
        let same = same_name t.0 field e in
        let first : is_eq (name_cmp t.0 other) ≡ false = not_same t.0 other (λ h. differs (sym same ∙ h)) in
        rw first more
    by Greater e more = ap (λ o. cond (is_eq (name_cmp t.0 other)) (Some t.1) o) more

-- ---- one command

itself : (a : List ℕ) → bytes_eq a a ≡ true
itself a = search rules

other_name : (a b : List ℕ) → bytes_eq a b ≡ false → a ≢ b
other_name a b h e = let bad : bytes_eq b b ≡ false = subst (λ x. bytes_eq x b ≡ false) e h in let good = itself b in absurd (cc)

unnamed : (bytes : List ℕ) (ts : List Table) (x : Command) (field : List ℕ) → is_on field x ≡ false
    → cells_of_field field (effect bytes ts x).tables ≡ cells_of_field field ts
unnamed bytes ts (Add other) field h = by (catalogue_in bytes)
  where
    by : (reading : Reading) → cells_of_field field (added other ts reading).tables ≡ cells_of_field field ts
    by (accepted cells taken) = put_other other field cells ts (other_name other field h)
    by (rejected stop taken) = refl
unnamed bytes ts (Drop other) field h = by (is_some (cells_of_field other ts))
  where
    by : (b : Bool) → cells_of_field field (cond b (changes 0 (without_field other ts)) (fails (Refused NoSuchField) 0 ts)).tables ≡ cells_of_field field ts
    by true = without_other other field ts (other_name other field h)
    by false = refl
unnamed bytes ts Listing field h = refl
unnamed bytes ts (Brightest count) field h = refl

or_parts : (a b : Bool) → a || b ≡ false → (a ≡ false) × (b ≡ false)
or_parts true b h = absurd (cc)
or_parts false b h = (refl, h)

-- ---- a session

stop_parts : (e s : Outcome) → (followed_by e s).stop ≡ None → (e.stop ≡ None) × (followed_by e s ≡ joined_unless None e s)
stop_parts e s h = by e.stop refl h
  where
    by : (o : Option Stop) → e.stop ≡ o → (joined_unless o e s).stop ≡ None → (e.stop ≡ None) × (joined_unless o e s ≡ joined_unless None e s)
    by None q h = (q, refl)
    by (Some stop) q h = absurd (let bad : Some stop ≡ None = sym q ∙ h in cc)

pub unnamed_stay : UnnamedFieldsStay
unfolding session
unnamed_stay bytes ts [] field none passed = refl
unnamed_stay bytes ts (x ∷ xs) field none passed =
    let e = effect bytes ts x in
    let s = session (drop e.taken bytes) e.tables xs in
    let parts = or_parts (is_on field x) (list_any (is_on field) xs) none in
    let stop = stop_parts e s passed in
    ap (λ (o : Outcome). cells_of_field field o.tables) stop.1
    ∙ unnamed_stay (drop e.taken bytes) e.tables xs field parts.1 (ap (λ (o : Outcome). o.stop) (sym stop.1) ∙ passed)
    ∙ unnamed bytes ts x field parts.0

front_passed : (bytes : List ℕ) (ts : List Table) (xs ys : List Command) → (session bytes ts (xs ++ ys)).stop ≡ None → (session bytes ts xs).stop ≡ None
unfolding session
front_passed bytes ts [] ys passed = refl
front_passed bytes ts (x ∷ xs) ys passed =
    let e = effect bytes ts x in
    let stop = stop_parts e (session (drop e.taken bytes) e.tables (xs ++ ys)) passed in
    let more = front_passed (drop e.taken bytes) e.tables xs ys (ap (λ (o : Outcome). o.stop) (sym stop.1) ∙ passed) in
    ap (λ o. (joined_unless o e (session (drop e.taken bytes) e.tables xs)).stop) stop.0 ∙ more

first_then : (b : List ℕ) (t : List Table) (x : Command) (ys : List Command) (field : List ℕ) → NoneIsOn field ys → (session b t (x ∷ ys)).stop ≡ None
    → cells_of_field field (session b t (x ∷ ys)).tables ≡ cells_of_field field (effect b t x).tables
unfolding session
first_then b t x ys field none rest =
    let e = effect b t x in
    let stop = stop_parts e (session (drop e.taken b) e.tables ys) rest in
    ap (λ (o : Outcome). cells_of_field field o.tables) stop.1
    ∙ unnamed_stay (drop e.taken b) e.tables ys field none (ap (λ (o : Outcome). o.stop) (sym stop.1) ∙ rest)

nothing_there : (o : Option (List ℤ)) → is_some o ≡ false → o ≡ None
nothing_there None h = refl
nothing_there (Some x) h = absurd (cc)

-- what the commands after a prefix give
after_front : (bytes : List ℕ) (ts : List Table) (xs : List Command) (x : Command) (ys : List Command) (field : List ℕ) → NoneIsOn field ys
    → (session bytes ts (xs ++ x ∷ ys)).stop ≡ None
    → cells_of_field field (session bytes ts (xs ++ x ∷ ys)).tables
    ≡ cells_of_field field (effect (drop (session bytes ts xs).taken bytes) (session bytes ts xs).tables x).tables
after_front bytes ts xs x ys field none passed =
    let front = front_passed bytes ts xs (x ∷ ys) passed in
    let all = session_app bytes ts xs (x ∷ ys) front in
    let b = drop (session bytes ts xs).taken bytes in
    let t = (session bytes ts xs).tables in
    let rest : (session b t (x ∷ ys)).stop ≡ None = sym (ap (λ (o : Outcome). o.stop) all) ∙ passed in
    ap (λ (o : Outcome). cells_of_field field o.tables) all ∙ first_then b t x ys field none rest

pub last_add : LastAddIsKept
last_add bytes ts before after field cells taken none passed is =
    after_front bytes ts before (Add field) after field none passed
    ∙ ap (λ (r : Reading). cells_of_field field (added field (session bytes ts before).tables r).tables) is
    ∙ put_here field cells (session bytes ts before).tables

pub last_drop : LastDropIsKept
last_drop bytes ts before after field none passed =
    after_front bytes ts before (Drop field) after field none passed ∙ by (is_some (cells_of_field field t)) refl
  where
    t : List Table
    t = (session bytes ts before).tables

    by : (b : Bool) → is_some (cells_of_field field t) ≡ b
        → cells_of_field field (cond b (changes 0 (without_field field t)) (fails (Refused NoSuchField) 0 t)).tables ≡ None
    by true e = gone field t
    by false e = nothing_there (cells_of_field field t) e

-- ---- a session that stops

-- a command that fails changes no table
failing_keeps : (bytes : List ℕ) (ts : List Table) (x : Command) (stop : Stop) → (effect bytes ts x).stop ≡ Some stop → (effect bytes ts x).tables ≡ ts
failing_keeps bytes ts (Add field) stop h = by (catalogue_in bytes) h
  where
    by : (reading : Reading) → (added field ts reading).stop ≡ Some stop → (added field ts reading).tables ≡ ts
    by (accepted cells taken) h = absurd (cc)
    by (rejected why taken) h = refl
failing_keeps bytes ts (Drop field) stop h = by (is_some (cells_of_field field ts)) h
  where
    by : (b : Bool) → (cond b (changes 0 (without_field field ts)) (fails (Refused NoSuchField) 0 ts)).stop ≡ Some stop
        → (cond b (changes 0 (without_field field ts)) (fails (Refused NoSuchField) 0 ts)).tables ≡ ts
    by true h = absurd (cc)
    by false h = refl
failing_keeps bytes ts Listing stop h = absurd (cc)
failing_keeps bytes ts (Brightest count) stop h = absurd (cc)

-- where it stands: a session without a fault is before it
record FailsAt (bytes : List ℕ) (ts : List Table) (xs : List Command) (stop : Stop) : Type 0 where
  before : List Command
  failing : Command
  after : List Command
  split : xs ≡ before ++ failing ∷ after
  passed : (session bytes ts before).stop ≡ None
  fails : (effect (drop (session bytes ts before).taken bytes) (session bytes ts before).tables failing).stop ≡ Some stop

-- one command more in front, which doesn't fail
fails_later : (bytes : List ℕ) (ts : List Table) (x : Command) (xs : List Command) (stop : Stop) → (effect bytes ts x).stop ≡ None
    → FailsAt (drop (effect bytes ts x).taken bytes) (effect bytes ts x).tables xs stop → FailsAt bytes ts (x ∷ xs) stop
unfolding session
fails_later bytes ts x xs stop here k =
    let e = effect bytes ts x in
    let s = session (drop e.taken bytes) e.tables k.before in
    let joined : followed_by e s ≡ joined_outcomes e s = ap (λ o. joined_unless o e s) here in
    let failing : (effect (drop s.taken (drop e.taken bytes)) s.tables k.failing).stop ≡ Some stop = k.fails in
    let moved : (effect (drop (e.taken + s.taken) bytes) s.tables k.failing).stop ≡ Some stop =
    subst (λ b. (effect b s.tables k.failing).stop ≡ Some stop) (drop-drop s.taken e.taken bytes) failing in
    record {
      before = x ∷ k.before;
      failing = k.failing;
      after = k.after;
      split = ap (λ (ys : List Command). x ∷ ys) k.split;
      passed = ap (λ (o : Outcome). o.stop) joined ∙ k.passed;
      fails = subst (λ (o : Outcome). (effect (drop o.taken bytes) o.tables k.failing).stop ≡ Some stop) (sym joined) moved;
    }

fails_at : (bytes : List ℕ) (ts : List Table) (xs : List Command) (stop : Stop) → (session bytes ts xs).stop ≡ Some stop → FailsAt bytes ts xs stop
unfolding session
fails_at bytes ts [] stop h = absurd (let bad : None ≡ Some stop = h in cc)
fails_at bytes ts (x ∷ xs) stop h = by (effect bytes ts x).stop refl h (λ k. fails_at (drop (effect bytes ts x).taken bytes) (effect bytes ts x).tables xs stop k)
  where
    by : (o : Option Stop) → (effect bytes ts x).stop ≡ o
        → (joined_unless o (effect bytes ts x) (session (drop (effect bytes ts x).taken bytes) (effect bytes ts x).tables xs)).stop ≡ Some stop
        → ((session (drop (effect bytes ts x).taken bytes) (effect bytes ts x).tables xs).stop ≡ Some stop
        → FailsAt (drop (effect bytes ts x).taken bytes) (effect bytes ts x).tables xs stop)
        → FailsAt bytes ts (x ∷ xs) stop
    by None e h more = fails_later bytes ts x xs stop e (more h)
    by (Some other) e h more = record { before = []; failing = x; after = xs; split = refl; passed = refl; fails = h }

pub stops_behind : TablesBeforeAStopAreKept
stops_behind bytes ts xs stop h =
    let k = fails_at bytes ts xs stop h in
    let b = drop (session bytes ts k.before).taken bytes in
    let t = (session bytes ts k.before).tables in
    let all : session bytes ts (k.before ++ k.failing ∷ k.after) ≡ joined_outcomes (session bytes ts k.before) (effect b t k.failing) =
    session_stops bytes ts k.before k.failing k.after stop k.passed k.fails in
    record {
      before = k.before;
      failing = k.failing;
      after = k.after;
      commands_are = k.split;
      passed = k.passed;
      fails = k.fails;
      tables_are = ap (λ (ys : List Command). (session bytes ts ys).tables) k.split ∙ ap (λ (o : Outcome). o.tables) all
          ∙ failing_keeps b t k.failing stop k.fails;
    }
