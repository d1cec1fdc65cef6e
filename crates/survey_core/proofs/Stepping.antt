-- What each command does, by how it ended.
use Rattle.std.proofs.Common.{◌≡◌, ◌∙◌, ℕ, Bool, true, false, cond, List, [], ◌∷◌, Some, None, refl, sym, ap, subst, arith, Result, Ok, Err}
use Rattle.std.proofs.Common.{ℤ, not, Ordering, Less, Equal, Greater}
use Rattle.std.specs.Prelude.{Option, IfErr, is_some, unwrap_or}
use Rattle.std.specs.Ordering.{is_eq}
use Rattle.std.proofs.KnownBytes.{Appends-nil}
use Rattle.dev_io.specs.Streams.{TakesAtMost}
use Rattle.survey_core.specs.declared.keeper.Refused.{Refused as Why}
use Rattle.survey_core.specs.declared.keeper.Refused.TheVariants as why
use Rattle.survey_core.specs.declared.words.Command.TheVariants.{Add, Drop}
use Rattle.survey_core.specs.declared.fault.Stop.{Stop}
use Rattle.survey_core.specs.declared.fault.Stop.TheVariants.{Refused, ReadFault, WriteFault, NoMemory, KeeperFault}
use Rattle.survey_core.specs.declared.fault.Fault.TheVariants.{NoSuchField}
use Rattle.survey_core.specs.Stops.{stop_at_keeper}
use Rattle.survey_core.specs.Fields.{name_cmp}
use Rattle.survey_core.specs.Tables.{Table, cells_of_field, put, without_field}
use Rattle.survey_core.specs.Clauses.{Becomes}
use Rattle.survey_core.specs.Catalogues.{Reading, accepted, rejected}
use Rattle.survey_core.specs.Reads.{taken_of}
use Rattle.survey_core.specs.Reads.{IsAccepted, IsRejected, MayLackIn}
use Rattle.survey_core.specs.Sessions.{added, changes, fails}
use Rattle.survey_core.specs.Steps.{MayLackFor}
use Rattle.survey_core.specs.Carrying.{Does, Step}
use Rattle.survey_core.proofs.Printing.{none_taken}

pub becomes_at : (a b : Option (List Table)) (x : List Table) (change : List Table → List Table) → Becomes a b change → a ≡ Some x → b ≡ Some (change x)
becomes_at None b x change h e = absurd (cc)
becomes_at (Some y) b x change h e = h ∙ ap (λ o. Some (change (unwrap_or o y))) e

-- what stands behind a stop whatever a count is, stands behind it at this one
pub cause_at : {A : Type 0} (r : Result Unit Stop) (P : Stop → A → Type 0) (n : A) → IfErr r (λ stop. (k : A) → P stop k) → IfErr r (λ stop. P stop n)
cause_at (Ok done) P n h = tt
cause_at (Err stop) P n h = h n

-- ---- add

added_output : (field : List ℕ) (ts : List Table) (reading : Reading) → (added field ts reading).output ≡ []
added_output field ts (accepted cells taken) = refl
added_output field ts (rejected stop taken) = refl

added_taken : (field : List ℕ) (ts : List Table) (reading : Reading) → (added field ts reading).taken ≡ taken_of reading
added_taken field ts (accepted cells taken) = refl
added_taken field ts (rejected stop taken) = refl

added_wants : (field : List ℕ) (ts : List Table) (reading : Reading) → MayLackIn reading → MayLackFor (added field ts reading).stop
added_wants field ts (accepted cells taken) h = tt
added_wants field ts (rejected stop taken) h = h

module _ (field : List ℕ) (bytes : List ℕ) (ts : List Table) (reading : Reading) (left : Option (List ℕ)) (k : Option (List Table)) (w : Option (List ℕ)) where
  pub accepts : (cells : List ℤ) → IsAccepted reading bytes left cells → k ≡ Some (put field cells ts) → Does (added field ts reading) bytes left k w w None
  accepts cells read is = rw read.reading_is (record { stop_is = refl; takes = read.takes; tables_are = is; appended = Appends-nil w })

  cut : (stop : Stop) → k ≡ Some ts → TakesAtMost bytes left (taken_of reading) → TakesAtMost bytes left (added field ts reading).taken
  cut stop is lost = rw added_taken lost

  pub rejects : (stop : Stop) → IsRejected reading bytes left stop → k ≡ Some ts → Step (added field ts reading) (Add field) bytes ts left k w w (Err stop)
  rejects (Refused fault) out is = rw (out.1) (record { stop_is = refl; takes = out.2; tables_are = is; appended = Appends-nil w })
  rejects ReadFault out is =
      record {
        may_come = refl;
        lost = cut ReadFault is out;
        tables_are = is;
        front = [];
        back = [];
        split = added_output field ts reading;
        appended = Appends-nil w;
        is_front = refl;
      }
  rejects WriteFault out is = absurd out
  rejects NoMemory out is =
      record {
        may_come = added_wants field ts reading out.0;
        lost = cut NoMemory is out.1;
        tables_are = is;
        front = [];
        back = [];
        split = added_output field ts reading;
        appended = Appends-nil w;
        is_front = refl;
      }
  rejects KeeperFault out is = absurd out

  pub refuses : (cells : List ℤ) (refused : Why) (stop : Stop) → stop ≡ stop_at_keeper refused → IsAccepted reading bytes left cells → k ≡ Some ts
      → Step (added field ts reading) (Add field) bytes ts left k w w (Err stop)
  refuses cells refused stop stop_is read is = subst (λ s. Step (added field ts reading) (Add field) bytes ts left k w w (Err s)) (sym stop_is) (by refused)
    where
      lost : TakesAtMost bytes left (taken_of reading)
      lost = rw read.reading_is (record { count = read.taken; few = omega arith; takes = read.takes })

      wants : MayLackIn reading
      wants = rw read.reading_is tt

      by : (refused : Why) → Step (added field ts reading) (Add field) bytes ts left k w w (Err (stop_at_keeper refused))
      by why.Fault =
          record {
            may_come = tt;
            lost = cut KeeperFault is lost;
            tables_are = is;
            front = [];
            back = [];
            split = added_output field ts reading;
            appended = Appends-nil w;
            is_front = refl;
          }
      by why.OutOfMemory =
          record {
            may_come = added_wants field ts reading wants;
            lost = cut NoMemory is lost;
            tables_are = is;
            front = [];
            back = [];
            split = added_output field ts reading;
            appended = Appends-nil w;
            is_front = refl;
          }

-- ---- drop

absent : (field : List ℕ) (ts : List Table) → is_some (cells_of_field field ts) ≡ false → without_field field ts ≡ ts
absent field [] h = refl
absent field (t ∷ ts) h = by (name_cmp t.0 field) h (absent field ts)
  where
    by : (o : Ordering) → is_some (cond (is_eq o) (Some t.1) (cells_of_field field ts)) ≡ false
        → (is_some (cells_of_field field ts) ≡ false → without_field field ts ≡ ts)
        → cond (not (is_eq o)) (t ∷ without_field field ts) (without_field field ts) ≡ t ∷ ts
    by Less h more = ap (λ l. t ∷ l) (more h)
    by Equal h more = absurd (cc)
    by Greater h more = ap (λ l. t ∷ l) (more h)

pub not_there : (field bytes : List ℕ) (ts : List Table) (k : Option (List Table)) (w : Option (List ℕ)) (found : Bool) → found ≡ false
    → found ≡ is_some (cells_of_field field ts) → k ≡ Some (without_field field ts)
    → Does (cond (is_some (cells_of_field field ts)) (changes 0 (without_field field ts)) (fails (Refused NoSuchField) 0 ts)) bytes (Some bytes) k w w
    (Some (Refused NoSuchField))
not_there field bytes ts k w found no_it is removed =
    let missing : is_some (cells_of_field field ts) ≡ false = sym is ∙ no_it in
    rw missing (record { stop_is = refl; takes = none_taken bytes; tables_are = removed ∙ ap Some (absent field ts missing); appended = Appends-nil w })

pub there : (field bytes : List ℕ) (ts : List Table) (k : Option (List Table)) (w : Option (List ℕ)) (found : Bool) → found ≡ true
    → found ≡ is_some (cells_of_field field ts) → k ≡ Some (without_field field ts)
    → Does (cond (is_some (cells_of_field field ts)) (changes 0 (without_field field ts)) (fails (Refused NoSuchField) 0 ts)) bytes (Some bytes) k w w None
there field bytes ts k w found it_is is removed =
    let here : is_some (cells_of_field field ts) ≡ true = sym is ∙ it_is in
    rw here (record { stop_is = refl; takes = none_taken bytes; tables_are = removed; appended = Appends-nil w })

-- the keeper refused: nothing is done, whether or not the field is there
pub not_dropped : (field bytes : List ℕ) (ts : List Table) (there : Bool) (k : Option (List Table)) (w : Option (List ℕ)) (refused : Why) (stop : Stop)
    → stop ≡ stop_at_keeper refused → k ≡ Some ts
    → Step (cond there (changes 0 (without_field field ts)) (fails (Refused NoSuchField) 0 ts)) (Drop field) bytes ts (Some bytes) k w w (Err stop)
not_dropped field bytes ts there k w refused stop stop_is is =
    subst
    (λ s. Step (cond there (changes 0 (without_field field ts)) (fails (Refused NoSuchField) 0 ts)) (Drop field) bytes ts (Some bytes) k w w (Err s))
    (sym stop_is) (by refused there)
  where
    by : (refused : Why) (there : Bool)
        → Step (cond there (changes 0 (without_field field ts)) (fails (Refused NoSuchField) 0 ts)) (Drop field) bytes ts (Some bytes) k w w
        (Err (stop_at_keeper refused))
    by why.Fault true = record {
      may_come = tt;
      lost = record { count = 0; few = omega arith; takes = none_taken bytes };
      tables_are = is;
      front = [];
      back = [];
      split = refl;
      appended = Appends-nil w;
      is_front = refl;
    }
    by why.Fault false = record {
      may_come = tt;
      lost = record { count = 0; few = omega arith; takes = none_taken bytes };
      tables_are = is;
      front = [];
      back = [];
      split = refl;
      appended = Appends-nil w;
      is_front = refl;
    }
    by why.OutOfMemory true = record {
      may_come = tt;
      lost = record { count = 0; few = omega arith; takes = none_taken bytes };
      tables_are = is;
      front = [];
      back = [];
      split = refl;
      appended = Appends-nil w;
      is_front = refl;
    }
    by why.OutOfMemory false = record {
      may_come = tt;
      lost = record { count = 0; few = omega arith; takes = none_taken bytes };
      tables_are = is;
      front = [];
      back = [];
      split = refl;
      appended = Appends-nil w;
      is_front = refl;
    }
