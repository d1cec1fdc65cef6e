use Rattle.join_top.proofs.top.run_join.Goals as goal

pub returns : goal.returns
returns g c =
    let end = c.end_of_join-end in
    record { end = end.result; status_is = c.status.ensures; told = end.ensures.told; cause = end.ensures.cause; noted = c.tell_join.ensures }
