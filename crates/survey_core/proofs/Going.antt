-- A session, command by command.
use Rattle.std.proofs.Common.{◌≡◌, ◌∙◌, ℕ, ◌+◌, ◌<◌, ◌≤◌, Bool, true, false, cond, ◌⊎◌, ◌||◌, List, [], ◌∷◌, ◌++◌, drop, Some, None, refl, sym, ap}
use Rattle.std.proofs.Common.{subst, arith, Ok, Err, append_assoc, append-nil, zero-add, inl, inr}
use Rattle.std.specs.Prelude.{Option, IsTrue, is_some}
use Rattle.std.specs.List.{list_any}
use Rattle.std.proofs.KnownBytes.{Appends-trans, Appends-nil}
use Rattle.std.proofs.lemmas.List.{drop-drop}
use Rattle.dev_io.specs.Laws.{Takes-after}
use Rattle.dev_io.proofs.Exported.{rose_since}
use Rattle.survey_core.specs.declared.words.Command.{Command}
use Rattle.survey_core.specs.declared.words.Command.TheVariants.{Add, Drop, List as Listing, Brightest}
use Rattle.survey_core.specs.declared.fault.Stop.{Stop}
use Rattle.survey_core.specs.declared.fault.Stop.TheVariants.{Refused, ReadFault, WriteFault, NoMemory, KeeperFault}
use Rattle.survey_core.specs.declared.fault.Fault.{Fault}
use Rattle.survey_core.specs.declared.fault.Fault.TheVariants.{NoSuchField}
use Rattle.survey_core.specs.declared.top.End.TheVariants.{Done, Stopped}
use Rattle.survey_core.specs.Tables.{Table, cells_of_field, without_field}
use Rattle.survey_core.specs.Commands.{read, front, width}
use Rattle.survey_core.specs.Catalogues.{Reading, accepted, rejected, catalogue_in}
use Rattle.survey_core.specs.Sessions.{Outcome, nothing, added, changes, fails, effect, joined_outcomes, joined_unless, followed_by, session}
use Rattle.survey_core.specs.Steps.{Cause, is_printing}
use Rattle.survey_core.specs.Carrying.{Does, IsCutCommand, Step, SettledBy}
use Rattle.survey_core.specs.Answers.{answer_to_outcome, session_end}
use Rattle.survey_core.specs.Runs.{IsCutIn, StopsIn}
use Rattle.survey_core.specs.Ends.{SessionAnswers, StopTells}
use Rattle.survey_core.proofs.Wording.{read_front, no_front, behind_ok}

-- ---- outcomes one after the other

same_outcome : (a b : Outcome) → a.stop ≡ b.stop → a.output ≡ b.output → a.taken ≡ b.taken → a.tables ≡ b.tables → a.printed ≡ b.printed → a ≡ b
same_outcome a b stop output taken tables printed = λ i. record { stop = stop i; output = output i; taken = taken i; tables = tables i; printed = printed i }

or_false : (b : Bool) → b || false ≡ b
or_false true = refl
or_false false = refl

or_assoc : (a b d : Bool) → a || (b || d) ≡ (a || b) || d
or_assoc true b d = refl
or_assoc false b d = refl

nothing_first : (ts : List Table) (o : Outcome) → joined_outcomes (nothing ts) o ≡ o
nothing_first ts o = same_outcome (joined_outcomes (nothing ts) o) o refl refl (zero-add o.taken) refl refl

nothing_last : (o : Outcome) → o.stop ≡ None → joined_outcomes o (nothing o.tables) ≡ o
nothing_last o e = same_outcome (joined_outcomes o (nothing o.tables)) o (sym e) (append-nil o.output) (omega arith) refl (or_false o.printed)

joined_assoc : (a b d : Outcome) → joined_outcomes a (joined_outcomes b d) ≡ joined_outcomes (joined_outcomes a b) d
joined_assoc a b d = same_outcome _ _ refl (sym (append_assoc a.output b.output d.output)) (omega arith) refl (or_assoc a.printed b.printed d.printed)

pub session_app : (bytes : List ℕ) (ts : List Table) (xs ys : List Command) → (session bytes ts xs).stop ≡ None
    → session bytes ts (xs ++ ys) ≡ joined_outcomes (session bytes ts xs) (session (drop (session bytes ts xs).taken bytes) (session bytes ts xs).tables ys)
unfolding session
session_app bytes ts [] ys passed = sym (nothing_first ts (session bytes ts ys))
session_app bytes ts (x ∷ xs) ys passed =
    go (effect bytes ts x) (session (drop (effect bytes ts x).taken bytes) (effect bytes ts x).tables xs) passed
    (session_app (drop (effect bytes ts x).taken bytes) (effect bytes ts x).tables xs ys)
  where
    go : (e s : Outcome) → (followed_by e s).stop ≡ None
        → (s.stop ≡ None → session (drop e.taken bytes) e.tables (xs ++ ys) ≡ joined_outcomes s (session (drop s.taken (drop e.taken bytes)) s.tables ys))
        → followed_by e (session (drop e.taken bytes) e.tables (xs ++ ys))
        ≡ joined_outcomes (followed_by e s) (session (drop (followed_by e s).taken bytes) (followed_by e s).tables ys)
    go e s passed more = by e.stop refl passed
      where
        by : (o : Option Stop) → e.stop ≡ o → (joined_unless o e s).stop ≡ None
            → joined_unless o e (session (drop e.taken bytes) e.tables (xs ++ ys))
            ≡ joined_outcomes (joined_unless o e s) (session (drop (joined_unless o e s).taken bytes) (joined_unless o e s).tables ys)
        by (Some stop) h p = absurd (let bad : Some stop ≡ None = sym h ∙ p in cc)
        by None h p = ap (joined_outcomes e) (more p) ∙ joined_assoc e s _
            ∙ ap (λ b. joined_outcomes (joined_outcomes e s) (session b s.tables ys)) (drop-drop s.taken e.taken bytes)

alone : (bytes : List ℕ) (ts : List Table) (x : Command) → (effect bytes ts x).stop ≡ None → session bytes ts (x ∷ []) ≡ effect bytes ts x
unfolding session
alone bytes ts x h = ap (λ o. joined_unless o (effect bytes ts x) (nothing (effect bytes ts x).tables)) h ∙ nothing_last (effect bytes ts x) h

stopped : (bytes : List ℕ) (ts : List Table) (x : Command) (ys : List Command) (stop : Stop) → (effect bytes ts x).stop ≡ Some stop
    → session bytes ts (x ∷ ys) ≡ effect bytes ts x
unfolding session
stopped bytes ts x ys stop h = ap (λ o. joined_unless o (effect bytes ts x) (session (drop (effect bytes ts x).taken bytes) (effect bytes ts x).tables ys)) h

-- one command more
pub session_more : (bytes : List ℕ) (ts : List Table) (xs : List Command) (x : Command) → (session bytes ts xs).stop ≡ None
    → (effect (drop (session bytes ts xs).taken bytes) (session bytes ts xs).tables x).stop ≡ None
    → session bytes ts (xs ++ x ∷ []) ≡ joined_outcomes (session bytes ts xs) (effect (drop (session bytes ts xs).taken bytes) (session bytes ts xs).tables x)
session_more bytes ts xs x passed here =
    session_app bytes ts xs (x ∷ []) passed
    ∙ ap (joined_outcomes (session bytes ts xs)) (alone (drop (session bytes ts xs).taken bytes) (session bytes ts xs).tables x here)

-- one that has a fault
pub session_stops : (bytes : List ℕ) (ts : List Table) (xs : List Command) (x : Command) (ys : List Command) (stop : Stop) → (session bytes ts xs).stop ≡ None
    → (effect (drop (session bytes ts xs).taken bytes) (session bytes ts xs).tables x).stop ≡ Some stop
    → session bytes ts (xs ++ x ∷ ys) ≡ joined_outcomes (session bytes ts xs) (effect (drop (session bytes ts xs).taken bytes) (session bytes ts xs).tables x)
session_stops bytes ts xs x ys stop passed here =
    session_app bytes ts xs (x ∷ ys) passed
    ∙ ap (joined_outcomes (session bytes ts xs)) (stopped (drop (session bytes ts xs).taken bytes) (session bytes ts xs).tables x ys stop here)

-- ---- so far

pub record SoFar (outcome : Outcome) (bytes : List ℕ) (left' : Option (List ℕ)) (tables' : Option (List Table)) (written written' : Option (List ℕ))
    (settled' : Bool) : Type 0 where
  pub does : Does outcome bytes left' tables' written written' None
  pub settled : IsTrue outcome.printed → IsTrue settled'

-- these commands were done, and those are left
pub record Going (commands : List Command) (words : List (List ℕ)) (at : ℕ) (left left' : Option (List ℕ)) (tables tables' : Option (List Table))
    (written written' : Option (List ℕ)) (settled' : Bool) : Type 0 where
  pub before : List Command
  pub rest : List Command
  pub split : commands ≡ before ++ rest
  pub rest_is : read (drop at words) ≡ Ok rest
  pub printed : IsTrue (list_any is_printing before) → IsTrue settled'
  pub told : (bytes : List ℕ) → left ≡ Some bytes → (ts : List Table) → tables ≡ Some ts
      → SoFar (session bytes ts before) bytes left' tables' written written' settled'

pub begins : (commands : List Command) (words : List (List ℕ)) (left : Option (List ℕ)) (tables : Option (List Table)) (written : Option (List ℕ))
    (settled : Bool) → read words ≡ Ok commands
    → Going commands words 0 left left tables tables written written settled
unfolding session
begins commands words left tables written settled is = record {
  before = [];
  rest = commands;
  split = refl;
  rest_is = is;
  printed = λ h. absurd (cc);
  told = λ bytes e ts told. record {
    does = record { stop_is = refl; takes = record { within = omega arith; rest = e }; tables_are = told; appended = Appends-nil written };
    settled = λ h. absurd (cc);
  };
}

or_cases : (a b : Bool) → IsTrue (a || b) → IsTrue a ⊎ IsTrue b
or_cases true b h = inl refl
or_cases false b h = inr h

any-snoc : (xs : List Command) (x : Command) → list_any is_printing (xs ++ x ∷ []) ≡ list_any is_printing xs || is_printing x
any-snoc [] x = or_false (is_printing x)
any-snoc (y ∷ xs) x = ap (λ b. is_printing y || b) (any-snoc xs x) ∙ or_assoc (is_printing y) (list_any is_printing xs) (is_printing x)

-- a command that is done prints if it is one of those that print
prints_as : (bytes : List ℕ) (ts : List Table) (x : Command) → (effect bytes ts x).stop ≡ None → (effect bytes ts x).printed ≡ is_printing x
prints_as bytes ts (Add field) h = by (catalogue_in bytes)
  where
    by : (reading : Reading) → (added field ts reading).printed ≡ false
    by (accepted cells taken) = refl
    by (rejected stop taken) = refl
prints_as bytes ts (Drop field) h = by (is_some (cells_of_field field ts))
  where
    by : (b : Bool) → (cond b (changes 0 (without_field field ts)) (fails (Refused NoSuchField) 0 ts)).printed ≡ false
    by true = refl
    by false = refl
prints_as bytes ts Listing h = refl
prints_as bytes ts (Brightest k) h = refl

-- one with a fault prints nothing
prints_none : (bytes : List ℕ) (ts : List Table) (x : Command) (stop : Stop) → (effect bytes ts x).stop ≡ Some stop → (effect bytes ts x).printed ≡ false
prints_none bytes ts (Add field) stop h = by (catalogue_in bytes)
  where
    by : (reading : Reading) → (added field ts reading).printed ≡ false
    by (accepted cells taken) = refl
    by (rejected stop taken) = refl
prints_none bytes ts (Drop field) stop h = by (is_some (cells_of_field field ts))
  where
    by : (b : Bool) → (cond b (changes 0 (without_field field ts)) (fails (Refused NoSuchField) 0 ts)).printed ≡ false
    by true = refl
    by false = refl
prints_none bytes ts Listing stop h = absurd (cc)
prints_none bytes ts (Brightest k) stop h = absurd (cc)

settled_on : (a p b b' : Bool) → b' ≡ p || b → (IsTrue a → IsTrue b) → IsTrue (a || p) → IsTrue b'
settled_on a true b b' is before h = is
settled_on true false b b' is before h = is ∙ before refl
settled_on false false b b' is before h = absurd (cc)

module _ (commands : List Command) (words : List (List ℕ)) (at : ℕ) (left a : Option (List ℕ)) (tables k : Option (List Table)) (w v : Option (List ℕ))
    (settled : Bool) (going : Going commands words at left a tables k w v settled) (x : Command) (here : front (drop at words) ≡ Ok x) (b : Option (List ℕ))
    (m : Option (List Table)) (u : Option (List ℕ)) (settled' : Bool) where
  next : (more : List Command) × (read (drop (width x) (drop at words)) ≡ Ok more) × (going.rest ≡ x ∷ more)
  next = behind_ok x (read (drop (width x) (drop at words))) going.rest (sym (read_front (drop at words) x here) ∙ going.rest_is)

  -- the command was done
  pub goes_on : (bytes_do : (bytes : List ℕ) → a ≡ Some bytes → (ts : List Table) → k ≡ Some ts → Does (effect bytes ts x) bytes b m v u None)
      → settled' ≡ is_printing x || settled
      → Going commands words (at + width x) left b tables m w u settled'
  goes_on bytes_do settles = record {
    before = going.before ++ x ∷ [];
    rest = next.0;
    split = going.split ∙ ap (λ l. going.before ++ l) next.2 ∙ sym (append_assoc going.before (x ∷ []) next.0);
    rest_is = ap read (sym (drop-drop (width x) at words)) ∙ next.1;
    printed =
        λ h. settled_on (list_any is_printing going.before) (is_printing x) settled settled' settles going.printed (subst IsTrue (any-snoc going.before x) h);
    told = told;
  }
    where
      told : (bytes : List ℕ) → left ≡ Some bytes → (ts : List Table) → tables ≡ Some ts
          → SoFar (session bytes ts (going.before ++ x ∷ [])) bytes b m w u settled'
      told bytes e ts t =
          let far = going.told bytes e ts t in
          let s = session bytes ts going.before in
          let does = bytes_do (drop s.taken bytes) far.does.takes.rest s.tables far.does.tables_are in
          let o = effect (drop s.taken bytes) s.tables x in
          subst (λ (r : Outcome). SoFar r bytes b m w u settled') (sym (session_more bytes ts going.before x far.does.stop_is does.stop_is)) (record {
            does = record {
              stop_is = does.stop_is;
              takes = Takes-after bytes a b s.taken o.taken far.does.takes does.takes;
              tables_are = does.tables_are;
              appended = Appends-trans w v u s.output o.output far.does.appended does.appended;
            };
            settled =
                λ h. settled_on s.printed (is_printing x) settled settled' settles far.settled
                (subst (λ p. IsTrue (s.printed || p)) (prints_as (drop s.taken bytes) s.tables x does.stop_is) h);
          })

  commands_are : commands ≡ going.before ++ x ∷ next.0
  commands_are = going.split ∙ ap (λ l. going.before ++ l) next.2

  -- it has a fault
  pub faulty : (fault : Fault) (bytes : List ℕ) → left ≡ Some bytes → (ts : List Table) → tables ≡ Some ts
      → ((bytes : List ℕ) → a ≡ Some bytes → (ts : List Table) → k ≡ Some ts → Does (effect bytes ts x) bytes b m v u (Some (Refused fault)))
      → settled' ≡ settled
      → SessionAnswers (answer_to_outcome (session bytes ts commands)) bytes b m w u settled' (Stopped (Refused fault))
  faulty fault bytes e ts t bytes_do settles =
      let far = going.told bytes e ts t in
      let s = session bytes ts going.before in
      let does = bytes_do (drop s.taken bytes) far.does.takes.rest s.tables far.does.tables_are in
      let o = effect (drop s.taken bytes) s.tables x in
      subst (λ (r : Outcome). SessionAnswers (answer_to_outcome r) bytes b m w u settled' (Stopped (Refused fault)))
      (sym (ap (session bytes ts) commands_are ∙ session_stops bytes ts going.before x next.0 (Refused fault) far.does.stop_is does.stop_is)) (record {
        end_is = ap session_end does.stop_is;
        takes = Takes-after bytes a b s.taken o.taken far.does.takes does.takes;
        tables_are = does.tables_are;
        appended = Appends-trans w v u s.output o.output far.does.appended does.appended;
        settled =
            λ h. settled_on s.printed false settled settled' settles far.settled
            (subst (λ p. IsTrue (s.printed || p)) (prints_none (drop s.taken bytes) s.tables x (Refused fault) does.stop_is) h);
      })

  -- it was cut short
  pub cut_here : (stop : Stop) (bytes : List ℕ) → left ≡ Some bytes → (ts : List Table) → tables ≡ Some ts
      → ((bytes : List ℕ) → a ≡ Some bytes → (ts : List Table) → k ≡ Some ts → IsCutCommand (effect bytes ts x) x bytes ts b m v u stop)
      → IsCutIn commands bytes ts b m w u stop
  cut_here stop bytes e ts t bytes_cut =
      let far = going.told bytes e ts t in
      let s = session bytes ts going.before in
      let cut = bytes_cut (drop s.taken bytes) far.does.takes.rest s.tables far.does.tables_are in
      record {
        before = going.before;
        command = x;
        after = next.0;
        commands_are = commands_are;
        here = record {
          passed = far.does.stop_is;
          may_come = cut.may_come;
          tables_are = cut.tables_are;
          lost = cut.lost.count;
          few = cut.lost.few;
          takes = Takes-after bytes a b s.taken cut.lost.count far.does.takes cut.lost.takes;
          front = cut.front;
          back = cut.back;
          split = cut.split;
          appended = Appends-trans w v u s.output cut.front far.does.appended cut.appended;
          is_front = cut.is_front;
        };
      }

  pub stops_here : (source source' sink sink' keeper keeper' : ℕ) (stop : Stop) → Cause x source source' sink sink' keeper keeper' stop
      → StopsIn commands source source' sink sink' keeper keeper' stop
  stops_here source source' sink sink' keeper keeper' stop cause =
      record { before = going.before; command = x; after = next.0; commands_are = commands_are; cause = cause }

  -- what any stop tells
  pub stop_tells : (stop : Stop) (bytes : List ℕ) → left ≡ Some bytes → (ts : List Table) → tables ≡ Some ts
      → ((bytes : List ℕ) → a ≡ Some bytes → (ts : List Table) → k ≡ Some ts → Step (effect bytes ts x) x bytes ts b m v u (Err stop))
      → SettledBy x settled settled' (Err stop)
      → StopTells (Ok commands) bytes ts b m w u settled' stop
  stop_tells (Refused fault) bytes e ts t steps settles = faulty fault bytes e ts t steps settles
  stop_tells ReadFault bytes e ts t steps settles = cut_here ReadFault bytes e ts t steps
  stop_tells WriteFault bytes e ts t steps settles = cut_here WriteFault bytes e ts t steps
  stop_tells NoMemory bytes e ts t steps settles = cut_here NoMemory bytes e ts t steps
  stop_tells KeeperFault bytes e ts t steps settles = cut_here KeeperFault bytes e ts t steps

-- no command is left
module _ (commands : List Command) (words : List (List ℕ)) (at : ℕ) (left a : Option (List ℕ)) (tables k : Option (List Table)) (w v : Option (List ℕ))
    (settled : Bool) (going : Going commands words at left a tables k w v settled) (at_fault : ℕ) (none : front (drop at words) ≡ Err at_fault) where
  all_before : commands ≡ going.before
  all_before = going.split ∙ ap (λ l. going.before ++ l) (no_front (drop at words) at_fault going.rest none going.rest_is) ∙ append-nil going.before

  pub finished : (bytes : List ℕ) → left ≡ Some bytes → (ts : List Table) → tables ≡ Some ts
      → SessionAnswers (answer_to_outcome (session bytes ts commands)) bytes a k w v settled Done
  finished bytes e ts t =
      let far = going.told bytes e ts t in
      subst (λ (l : List Command). SessionAnswers (answer_to_outcome (session bytes ts l)) bytes a k w v settled Done) (sym all_before) (record {
        end_is = ap session_end far.does.stop_is;
        takes = far.does.takes;
        tables_are = far.does.tables_are;
        appended = far.does.appended;
        settled = far.settled;
      })

  pub printed_all : IsTrue (list_any is_printing commands) → IsTrue settled
  printed_all h = going.printed (subst (λ (l : List Command). IsTrue (list_any is_printing l)) all_before h)

pub some_width : (x : Command) → 0 < width x
some_width (Add field) = omega arith
some_width (Drop field) = omega arith
some_width Listing = omega arith
some_width (Brightest count) = omega arith

pub cause_since : (x : Command) (source source' source'' sink sink' sink'' keeper keeper' keeper'' : ℕ) (stop : Stop) → source ≤ source' → sink ≤ sink'
    → keeper ≤ keeper' → Cause x source' source'' sink' sink'' keeper' keeper'' stop
    → Cause x source source'' sink sink'' keeper keeper'' stop
cause_since x a b d e f h i j l (Refused fault) p q r cause = tt
cause_since x a b d e f h i j l ReadFault p q r cause = (cause.0, rose_since a b d p cause.1)
cause_since x a b d e f h i j l WriteFault p q r cause = (cause.0, rose_since e f h q cause.1)
cause_since x a b d e f h i j l NoMemory p q r cause = tt
cause_since x a b d e f h i j l KeeperFault p q r cause = rose_since i j l r cause
