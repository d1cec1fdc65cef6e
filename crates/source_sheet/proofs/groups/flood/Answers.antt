use Rattle.std.proofs.Common.{◌≡◌, ◌∙◌, ◌<◌, length, sym, subst, ℕ, arith}
use Rattle.source_sheet.specs.Groups.{IsFlooding}
use Rattle.source_sheet.proofs.Grouping.{flood_start, flood_step}
use Rattle.source_sheet.proofs.groups.flood.Goals as goal

pub loop-cursor-init : goal.loop-cursor-init
loop-cursor-init c =
    let len : length c.args.pixels.now.items ≡ c.len-cursor.result = sym (c.len-cursor.ensures ∙ c.args.pixels.now.ok.0) in
    record {
      flooding =
          subst (λ (n : ℕ). IsFlooding c.args.plane.now c.args.connect c.args.choice.now.threshold c.args.p c.args.marks.now c.args.pixels.now.items n
          c.set.new.self c.push.new.self.items) len
          (flood_start c.args.plane.now c.args.connect c.args.choice.now.threshold c.args.p c.args.marks.now c.args.pixels.now.items
          c.set.new.self c.push.new.self.items c.requires.pixel c.requires.one_each c.requires.inside c.set.ensures
          c.in_ok-push.ensures.items);
      few = omega (arith, c.requires.few, len);
    }

pub loop-cursor-preserved : goal.loop-cursor-preserved
loop-cursor-preserved c =
    let below : c.loop-cursor.cursor < length c.loop-cursor.pixels.items = omega (arith, c.loop-cursor-test.true, c.len.ensures, c.loop-cursor.pixels.ok.0) in
    record {
      flooding =
          flood_step c.args.plane.now c.args.connect c.args.choice.now.threshold c.args.p c.args.marks.now c.args.pixels.now.items c.loop-cursor.cursor
          c.index-a.result.now c.loop-cursor.marks c.loop-cursor.pixels.items c.spread.new.marks c.spread.new.pixels.items c.loop-cursor.invariant.flooding
          below c.index-a.ensures c.in_ok-spread.ensures;
      few = omega (arith, c.if-cursor-most.false);
    }
