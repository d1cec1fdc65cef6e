use Rattle.std.proofs.Common.{ℕ, List, subst}
use Rattle.tree_products.specs.Catalogues.{hdus}
use Rattle.join_top.specs.declared.making.MakeStop.{MakeStop}
use Rattle.join_top.specs.Joinings.{IsJoinedOutput, IsRefusalOf}
use Rattle.join_top.specs.Making.{IsMakeStopOf}
use Rattle.join_top.proofs.Ending.{all_taken, image_of_all, whole_of_image}
use Rattle.join_top.proofs.top.carry_out.Goals as goal

pub returns-in-Err-Refused-clause-told : goal.returns-in-Err-Refused-clause-told
returns-in-Err-Refused-clause-told g c = λ bytes told.
    let read = c.in-Ok.ensures.told bytes told in
    let refused : IsRefusalOf c.in-Ok.bytes.items c.in-Err-Refused.refusal =
    subst (λ (stop : MakeStop). IsMakeStopOf c.in-Ok.bytes.items stop) c.in-Err-Refused.field-0-is c.in-Err-Refused.ensures.refused in (
      subst (λ (b : List ℕ). IsRefusalOf b c.in-Err-Refused.refusal) read.all_are refused,
      all_taken bytes _ _ c.in-Ok.bytes.items told read,
    )

pub returns-in-Ok-write_joined-clause-told : goal.returns-in-Ok-write_joined-clause-told
returns-in-Ok-write_joined-clause-told g c = λ bytes told.
    let read = c.in-Ok.ensures.told bytes told in
    let found = c.in-Ok-make_joined.found in
    let image = image_of_all c.in-Ok.bytes.items bytes (hdus found.shape found.map.items found.cells.items) read.all_are
    c.in-Ok-make_joined.ensures.image in
    record {
      output = hdus found.shape found.map.items found.cells.items;
      is_output = subst (λ (b : List ℕ). IsJoinedOutput b (hdus found.shape found.map.items found.cells.items)) read.all_are
          c.in-Ok-make_joined.ensures.output;
      written = c.in-Ok-write_joined.ensures.bytes;
      taken = all_taken bytes _ _ c.in-Ok.bytes.items told read;
      image = image;
      whole = whole_of_image bytes (hdus found.shape found.map.items found.cells.items) image;
    }

pub returns-clause-told : goal.returns-clause-told
returns-clause-told g c = λ bytes told.
    let read = c.in-Ok.ensures.told bytes told in
    let found = c.in-Ok-make_joined.found in
    record {
      output = hdus found.shape found.map.items found.cells.items;
      is_output = subst (λ (b : List ℕ). IsJoinedOutput b (hdus found.shape found.map.items found.cells.items)) read.all_are
          c.in-Ok-make_joined.ensures.output;
      front = c.in-Err.ensures.bytes;
      taken = all_taken bytes _ _ c.in-Ok.bytes.items told read;
    }
