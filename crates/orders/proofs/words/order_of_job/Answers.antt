use Rattle.std.proofs.Common.{refl}
use Rattle.orders.specs.Options.{u16_in, connect_in, positive_u16_in, workers_in, flat_in}
use Rattle.orders.specs.Words.{order_for}
use Rattle.orders.proofs.Places.{given_by}
use Rattle.orders.proofs.words.order_of_job.Goals as goal

pub returns : goal.returns
unfolding order_for
returns c =
    let connect = given_by _ _ connect_in _ c.value.ensures c.and_then.ensures in
    let strips = given_by _ _ positive_u16_in _ c.value-2.ensures c.and_then-2.ensures in
    let workers = given_by _ _ workers_in _ c.value-3.ensures c.and_then-3.ensures in
    let mesh = given_by _ _ u16_in _ c.value-4.ensures c.and_then-4.ensures in
    let flat = given_by _ _ flat_in _ c.value-5.ensures c.and_then-5.ensures in
    rw (c.hdu_for.ensures, c.unwrap_or.ensures, c.unwrap_or-2.ensures, c.unwrap_or-3.ensures, c.unwrap_or-4.ensures, c.unwrap_or-5.ensures)
    (rw (connect, strips, workers, mesh, flat) refl)
