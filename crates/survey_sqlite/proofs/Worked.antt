-- A call of a keeper that works on its connection, and what its answer says then.
use Rattle.std.proofs.Common.{◌≡◌, Some, Ok, Err, IfOk}
use Rattle.std.specs.Prelude.{Option, Result, OnOk, OnErr}
use Rattle.sqlite.specs.State.{State}
use Rattle.survey_sqlite.specs.Turns.{StaysOpen, IsWorkedOn, Worked}

pub worked : {C : Type 0} {state_of : C → State} {old new : Option C} {P : State → State → Type 0} (from to : C) → IsWorkedOn state_of old from
    → new ≡ Some to → StaysOpen (state_of from) (state_of to) → P (state_of from) (state_of to) → Worked state_of old new P
worked from to worked_on kept still shows =
    record { from = from; to = to; worked_on = worked_on; kept = kept; still = still; shows = shows }

pub on_ok : {T E : Type 0} (r : Result T E) (Q R : Type 0) → OnOk r Q → (Q → R) → OnOk r R
on_ok (Ok x) Q R q more = more q
on_ok (Err e) Q R q more = tt

pub on_err : {T E : Type 0} (r : Result T E) (Q R : Type 0) → OnErr r Q → (Q → R) → OnErr r R
on_err (Ok x) Q R q more = tt
on_err (Err e) Q R q more = more q

pub for_ok : {T E : Type 0} (r : Result T E) (Q R : T → Type 0) → IfOk r Q → ((x : T) → Q x → R x) → IfOk r R
for_ok (Ok x) Q R q more = more x q
for_ok (Err e) Q R q more = tt
