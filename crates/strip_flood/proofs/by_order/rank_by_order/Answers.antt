use Rattle.std.proofs.Common.{◌≡◌, ◌-◌, ◌^◌, ◌<◌, ◌≤◌, length, replicate, slice_index_or, pos, SFits, w64, to_z, of_z, sym, ap, subst, ◌∙◌, arith, rules}
use Rattle.std.proofs.Common.{length-set}
use Rattle.std.proofs.lemmas.Int.{to_z-of_z}
use Rattle.std.proofs.lemmas.List.{length-replicate}
use Rattle.comp_tree.specs.Limits.{no_node}
use Rattle.strip_flood.specs.Ranking.{AreRanks}
use Rattle.strip_flood.specs.Keys.{key_of, IsKey, IsCountWith}
use Rattle.strip_flood.proofs.Packing.{same_read, place_within, is_low, is_high}
use Rattle.strip_flood.proofs.Handing.{handing_first, handed, handing_done}
use Rattle.strip_flood.proofs.Fitting.{gap_fits, count_fits, place_fits, index_within, last_within, last_few}
use Rattle.std.proofs.lemmas.Result.{IfOk-from_err}
use Rattle.strip_flood.proofs.by_order.rank_by_order.Goals as goal

pub loop-k-init : goal.loop-k-init
loop-k-init c =
    let none : c.in_ok-ranks.ranks.items ≡ replicate (c.args.end - c.args.first) no_node = c.in_ok-ranks.ensures in
    let as_long : length c.sort_unstable.new.self.items ≡ length c.in_ok-levels.levels.items =
    (sym c.sort_unstable.new.self.ok.0 ∙ (c.sort_unstable.ensures.len ∙ c.in_ok-levels.levels.ok.0)) in
    let few : length c.in_ok-levels.levels.items ≤ c.args.end - c.args.first = c.in_ok-levels.ensures.few in
    let len : c.len-total.result ≡ length c.sort_unstable.new.self.items = (c.len-total.ensures ∙ c.sort_unstable.new.self.ok.0) in
    record {
      size = sym len;
      few = omega arith;
      ranks = ap length none ∙ length-replicate (c.args.end - c.args.first) no_node;
      handing = handing_first c.args.plane.now.values c.args.first
          (c.args.end - c.args.first) c.in_ok-levels.levels.items c.sort_unstable.new.self.items c.in_ok-ranks.ranks.items
          c.in_ok-levels.ensures.keys c.in_ok-levels.ensures.all c.sort_unstable.ensures.permutation c.sort_unstable.ensures.sorted none;
    }

pub unpack-key-requires-clause-low : goal.unpack-key-requires-clause-low
unpack-key-requires-clause-low c =
    let fits : SFits w64 c.index.result.now = search rules in
    let size : length c.loop-k.levels.items ≡ c.len-total.result = c.loop-k.invariant.size in
    let within : c.loop-k.k < length c.loop-k.levels.items = omega arith in
    let read : slice_index_or c.loop-k.levels.items c.loop-k.k (pos 0) ≡ c.index.result.now =
    same_read c.loop-k.levels.items c.loop-k.k c.index.result.now within c.index.ensures in
    is_low c.args.plane.now.values c.args.first (c.args.end - c.args.first) (to_z w64 (of_z w64 c.index.result.now))
    (subst (λ x. IsKey c.args.plane.now.values c.args.first (c.args.end - c.args.first) x) (read ∙ sym (to_z-of_z w64 c.index.result.now fits))
    (c.loop-k.invariant.handing.each c.loop-k.k (omega arith) within))

pub unpack-key-requires-clause-high : goal.unpack-key-requires-clause-high
unpack-key-requires-clause-high c =
    let fits : SFits w64 c.index.result.now = search rules in
    let size : length c.loop-k.levels.items ≡ c.len-total.result = c.loop-k.invariant.size in
    let within : c.loop-k.k < length c.loop-k.levels.items = omega arith in
    let read : slice_index_or c.loop-k.levels.items c.loop-k.k (pos 0) ≡ c.index.result.now =
    same_read c.loop-k.levels.items c.loop-k.k c.index.result.now within c.index.ensures in
    is_high c.args.plane.now.values c.args.first (c.args.end - c.args.first) (to_z w64 (of_z w64 c.index.result.now)) c.requires.few
    (subst (λ x. IsKey c.args.plane.now.values c.args.first (c.args.end - c.args.first) x) (read ∙ sym (to_z-of_z w64 c.index.result.now fits))
    (c.loop-k.invariant.handing.each c.loop-k.k (omega arith) within))

pub index_mut-requires-in-loop-k : goal.index_mut-requires-in-loop-k
index_mut-requires-in-loop-k c =
    let fits : SFits w64 c.index.result.now = search rules in
    let size : length c.loop-k.levels.items ≡ c.len-total.result = c.loop-k.invariant.size in
    let within : c.loop-k.k < length c.loop-k.levels.items = omega arith in
    let read : slice_index_or c.loop-k.levels.items c.loop-k.k (pos 0) ≡ c.index.result.now =
    same_read c.loop-k.levels.items c.loop-k.k c.index.result.now within c.index.ensures in
    let is : slice_index_or c.loop-k.levels.items c.loop-k.k (pos 0) ≡ key_of c.unpack-key.result.value c.unpack-key.result.place =
    read ∙ (sym (to_z-of_z w64 c.index.result.now fits) ∙ c.unpack-key.ensures.same) in
    let in_place : c.unpack-key.result.place < c.args.end - c.args.first =
    place_within c.args.plane.now.values c.args.first (c.args.end - c.args.first) (slice_index_or c.loop-k.levels.items c.loop-k.k (pos 0))
    c.unpack-key.result.value c.unpack-key.result.place c.requires.few
    (c.loop-k.invariant.handing.each c.loop-k.k (omega arith) within) is c.unpack-key.ensures.place in
    let ranks : length c.loop-k.ranks.items ≡ c.args.end - c.args.first = c.loop-k.invariant.ranks in
    let len : c.loop-k.ranks.len ≡ length c.loop-k.ranks.items = c.loop-k.ranks.ok.0 in
    omega arith

pub loop-k-preserved : goal.loop-k-preserved
loop-k-preserved c =
    let fits : SFits w64 c.index.result.now = search rules in
    let value : SFits w64 c.unpack-key.result.value = search rules in
    let size : length c.loop-k.levels.items ≡ c.len-total.result = c.loop-k.invariant.size in
    let within : c.loop-k.k < length c.loop-k.levels.items = omega arith in
    let read : slice_index_or c.loop-k.levels.items c.loop-k.k (pos 0) ≡ c.index.result.now =
    same_read c.loop-k.levels.items c.loop-k.k c.index.result.now within c.index.ensures in
    let is : slice_index_or c.loop-k.levels.items c.loop-k.k (pos 0) ≡ key_of (to_z w64 (of_z w64 c.unpack-key.result.value)) c.unpack-key.result.place
    = read ∙ (sym (to_z-of_z w64 c.index.result.now fits)
    ∙ (c.unpack-key.ensures.same ∙ ap (λ v. key_of v c.unpack-key.result.place) (sym (to_z-of_z w64 c.unpack-key.result.value value)))) in
    let few : c.args.end - c.args.first ≤ 2 ^ 24 = c.requires.few in
    let some : 0 < c.counted-count.result = c.counted-count.ensures.some in
    let counted : IsCountWith c.loop-k.levels.items c.loop-k.count (to_z w64 (of_z w64 c.unpack-key.result.value)) c.counted-count.result
    = subst (λ xs. IsCountWith xs c.loop-k.count (to_z w64 (of_z w64 c.unpack-key.result.value)) c.counted-count.result) c.deref.ensures.value
    c.counted-count.ensures in
    record {
      size = length-set c.loop-k.levels.items (c.counted-count.result - 1) (to_z w64 (of_z w64 c.unpack-key.result.value)) ∙ size;
      few = c.loop-k.invariant.few;
      ranks = length-set c.loop-k.ranks.items c.unpack-key.result.place (c.counted-count.result - 1) ∙ c.loop-k.invariant.ranks;
      handing = handed c.args.plane.now.values c.args.first
          (c.args.end - c.args.first) c.loop-k.levels.items c.loop-k.ranks.items c.loop-k.k c.loop-k.count c.counted-count.result (c.counted-count.result - 1)
          (to_z w64 (of_z w64 c.unpack-key.result.value)) c.unpack-key.result.place few c.loop-k.invariant.ranks c.loop-k.invariant.handing within is
          c.unpack-key.ensures.place counted (omega arith);
    }

pub returns-clause-ranks : goal.returns-clause-ranks
returns-clause-ranks c =
    let size : length c.loop-k.levels.items ≡ c.len-total.result = c.loop-k.invariant.size in
    let less : c.loop-k.count ≤ c.loop-k.k = c.loop-k.invariant.handing.few in
    let few : c.len-total.result ≤ c.args.end - c.args.first = c.loop-k.invariant.few in
    let end : c.len-total.result ≤ c.loop-k.k = c.loop-k-test.false in
    subst (λ xs. AreRanks c.args.plane.now.values c.args.first xs c.loop-k.ranks.items) (sym c.truncate.ensures.items)
    (handing_done c.args.plane.now.values c.args.first
    (c.args.end - c.args.first) c.loop-k.levels.items c.loop-k.ranks.items c.loop-k.k c.loop-k.count c.requires.few c.loop-k.invariant.ranks
    (omega arith) (omega arith)
    (let k : c.loop-k.k ≤ c.len-total.result = omega arith in omega arith) c.loop-k.invariant.handing)

pub returns-in_err-levels-clause-rising : goal.returns-in_err-levels-clause-rising
returns-in_err-levels-clause-rising c = IfOk-from_err _ _ c.from_residual.ensures.0

pub returns-in_err-levels-clause-few : goal.returns-in_err-levels-clause-few
returns-in_err-levels-clause-few c = IfOk-from_err _ _ c.from_residual.ensures.0

pub returns-in_err-levels-clause-length : goal.returns-in_err-levels-clause-length
returns-in_err-levels-clause-length c = IfOk-from_err _ _ c.from_residual.ensures.0

pub returns-in_err-levels-clause-ranks : goal.returns-in_err-levels-clause-ranks
returns-in_err-levels-clause-ranks c = IfOk-from_err _ _ c.from_residual.ensures.0

pub returns-in_err-ranks-clause-rising : goal.returns-in_err-ranks-clause-rising
returns-in_err-ranks-clause-rising c = IfOk-from_err _ _ c.from_residual-in_err-ranks.ensures.0

pub returns-in_err-ranks-clause-few : goal.returns-in_err-ranks-clause-few
returns-in_err-ranks-clause-few c = IfOk-from_err _ _ c.from_residual-in_err-ranks.ensures.0

pub returns-in_err-ranks-clause-length : goal.returns-in_err-ranks-clause-length
returns-in_err-ranks-clause-length c = IfOk-from_err _ _ c.from_residual-in_err-ranks.ensures.0

pub returns-in_err-ranks-clause-ranks : goal.returns-in_err-ranks-clause-ranks
returns-in_err-ranks-clause-ranks c = IfOk-from_err _ _ c.from_residual-in_err-ranks.ensures.0

pub keys_of-requires-clause-order : goal.keys_of-requires-clause-order
keys_of-requires-clause-order c = c.requires.order

pub keys_of-requires-clause-inside : goal.keys_of-requires-clause-inside
keys_of-requires-clause-inside c = c.requires.inside

pub keys_of-requires-clause-few : goal.keys_of-requires-clause-few
keys_of-requires-clause-few c = c.requires.few

pub overflow_sub-end : goal.overflow_sub-end
overflow_sub-end c = c.requires.order

pub overflow_cast-end : goal.overflow_cast-end
overflow_cast-end c = gap_fits c.args.end c.args.first c.ranges.end

pub index-requires : goal.index-requires
index-requires c = index_within c.loop-k.k c.len-total.result (length c.loop-k.levels.items) c.loop-k.levels.len c.loop-k.levels.ok.0
    c.loop-k.invariant.size c.loop-k-test.true

pub overflow_sub-count : goal.overflow_sub-count
overflow_sub-count c = c.counted-count.ensures.some

pub index_mut-requires : goal.index_mut-requires
index_mut-requires c = last_within c.counted-count.result c.loop-k.count c.loop-k.k c.len-total.result (length c.loop-k.levels.items)
    c.loop-k.levels.len c.loop-k.levels.ok.0 c.loop-k.invariant.size c.counted-count.ensures.some c.counted-count.ensures.one
    c.loop-k.invariant.handing.few c.loop-k-test.true

pub overflow_sub-count-in-loop-k : goal.overflow_sub-count-in-loop-k
overflow_sub-count-in-loop-k c = c.counted-count.ensures.some

pub overflow_cast-count : goal.overflow_cast-count
overflow_cast-count c = count_fits (c.counted-count.result - 1) (last_few c.counted-count.result c.loop-k.count c.loop-k.k c.len-total.result
    (c.args.end - c.args.first) c.counted-count.ensures.one c.loop-k.invariant.handing.few c.loop-k-test.true c.loop-k.invariant.few c.requires.few)

pub overflow_cast-key : goal.overflow_cast-key
overflow_cast-key c = place_fits c.unpack-key.result.place c.unpack-key.ensures.place

pub returns-clause-length : goal.returns-clause-length
returns-clause-length c = c.loop-k.invariant.ranks
