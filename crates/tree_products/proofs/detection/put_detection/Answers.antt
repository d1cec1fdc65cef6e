use Rattle.dev_io.specs.Laws.{AppendsPrefix-more}
use Rattle.tree_products.proofs.Causes.{cause_after, cause_after_two}
use Rattle.tree_products.proofs.Detections.{all_put, map_cut}
use Rattle.tree_products.proofs.detection.put_detection.Goals as goal

pub returns-in-Err-clause-bytes : goal.returns-in-Err-clause-bytes
returns-in-Err-clause-bytes g c = AppendsPrefix-more _ _ _ _ c.in-Err.ensures.bytes

pub returns-in-Err-put_map-clause-bytes : goal.returns-in-Err-put_map-clause-bytes
returns-in-Err-put_map-clause-bytes g c =
    map_cut _ _ _ _ _ _ _ c.in_default.ensures.bytes c.in-Err-put_map.ensures.bytes c.deref.ensures.value

pub returns-in-Err-put_map-clause-cause : goal.returns-in-Err-put_map-clause-cause
returns-in-Err-put_map-clause-cause g c =
    let first = c.in_default.ensures.cause in cause_after _ _ _ _ first.later c.in-Err-put_map.ensures.cause

pub returns-clause-bytes : goal.returns-clause-bytes
returns-clause-bytes g c =
    all_put _ _ _ _ _ _ _ _ _ _ _ _ c.in_default.ensures.bytes c.in_default-put_map.ensures.bytes c.put_table.ensures.bytes c.deref.ensures.value
    c.catalogue_columns.ensures.columns c.deref-2.ensures.value

pub returns-clause-cause : goal.returns-clause-cause
returns-clause-cause g c =
    let first = c.in_default.ensures.cause in
    let second = c.in_default-put_map.ensures.cause in
    cause_after_two _ _ _ _ _ first.later second.later c.put_table.ensures.cause
