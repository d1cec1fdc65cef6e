-- A command that prints.
use Rattle.std.proofs.Common.{◌≡◌, ◌∙◌, ℕ, List, [], Some, None, true, refl, sym, arith, append-nil}
use Rattle.std.specs.Prelude.{Option}
use Rattle.std.specs.Io.KnownBytes.{Appends, Keeps}
use Rattle.dev_io.specs.Streams.{Takes, AppendsPrefix}
use Rattle.survey_core.specs.declared.words.Command.{Command}
use Rattle.survey_core.specs.declared.fault.Stop.TheVariants.{WriteFault}
use Rattle.survey_core.specs.Tables.{Table}
use Rattle.survey_core.specs.Sessions.{prints}
use Rattle.survey_core.specs.Steps.{is_printing}
use Rattle.survey_core.specs.Carrying.{Does, IsCutCommand}

pub none_taken : (bytes : List ℕ) → Takes bytes (Some bytes) 0
none_taken bytes = record { within = omega arith; rest = refl }

pub appends_kept : (a b c : Option (List ℕ)) (xs : List ℕ) → Appends a b xs → Keeps b c → Appends a c xs
appends_kept None b c xs p q = tt
appends_kept (Some x) None c xs p q = absurd p
appends_kept (Some x) (Some y) None xs p q = absurd q
appends_kept (Some x) (Some y) (Some z) xs p q = q ∙ p

pub printed : (bytes lines : List ℕ) (ts : List Table) (k : Option (List Table)) (a b c : Option (List ℕ)) → k ≡ Some ts → Appends a b lines → Keeps b c
    → Does (prints lines ts) bytes (Some bytes) k a c None
printed bytes lines ts k a b c is put kept = record { stop_is = refl; takes = none_taken bytes; tables_are = is; appended = appends_kept a b c lines put kept }

pub cut_short : (bytes lines : List ℕ) (ts : List Table) (k : Option (List Table)) (command : Command) (a b : Option (List ℕ)) → is_printing command ≡ true
    → k ≡ Some ts → AppendsPrefix a b lines
    → IsCutCommand (prints lines ts) command bytes ts (Some bytes) k a b WriteFault
cut_short bytes lines ts k command a b prints_it is put = record {
  may_come = prints_it;
  lost = record { count = 0; few = omega arith; takes = none_taken bytes };
  tables_are = is;
  front = put.front;
  back = put.rest;
  split = put.split;
  appended = put.appended;
  is_front = tt;
}

pub not_done : (bytes lines : List ℕ) (ts : List Table) (k : Option (List Table)) (command : Command) (a b c : Option (List ℕ)) → is_printing command ≡ true
    → k ≡ Some ts → Appends a b lines → Keeps b c
    → IsCutCommand (prints lines ts) command bytes ts (Some bytes) k a c WriteFault
not_done bytes lines ts k command a b c prints_it is put kept =
    cut_short bytes lines ts k command a c prints_it is
    (record { front = lines; rest = []; split = sym (append-nil lines); appended = appends_kept a b c lines put kept })
