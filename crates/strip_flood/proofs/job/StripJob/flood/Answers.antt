use Rattle.std.proofs.Common.{◌≡◌, ◌+◌, false, true, sym, subst, ap, ◌∙◌, refl}
use Rattle.std.proofs.lemmas.List.{length-map}
use Rattle.strip_flood.specs.Jobs.{SuitsStrip, JobView}
use Rattle.strip_flood.specs.JobFields.{HasJobFields}
use Rattle.strip_flood.proofs.Working.{fresh_between, fresh_unseen, fresh_unlooked, job_flooded, fit_after, fit_defined, fit_inner, fit_standing}
use Rattle.strip_flood.proofs.job.StripJob.flood.Goals as goal

pub run-requires-clause-between : goal.run-requires-clause-between
run-requires-clause-between g c = fresh_between c.self.inside.strip c.self.invariant.known c.self.inside.flood
    (c.self.invariant.fresh (subst (λ v. v.flooded ≡ false) (sym c.self.view_is) c.requires.unflooded))

pub run-requires-clause-unseen : goal.run-requires-clause-unseen
run-requires-clause-unseen g c = fresh_unseen c.self.inside.strip c.self.invariant.known c.self.inside.flood
    (c.self.invariant.fresh (subst (λ v. v.flooded ≡ false) (sym c.self.view_is) c.requires.unflooded))

pub run-requires-clause-unlooked : goal.run-requires-clause-unlooked
run-requires-clause-unlooked g c = fresh_unlooked c.self.inside.strip c.self.invariant.known c.self.inside.flood
    (c.self.invariant.fresh (subst (λ v. v.flooded ≡ false) (sym c.self.view_is) c.requires.unflooded))

pub invariant_of-self : goal.invariant_of-self
invariant_of-self g c =
    job_flooded c.self.inside.shape.width c.self.inside.shape.height c.self.inside.first_row c.self.inside.end_row c.self.inside.strip
    c.self.inside.flood c.run.new.self
    (subst (λ b. HasJobFields c.self.inside.shape.width c.self.inside.shape.height c.self.inside.first_row c.self.inside.end_row c.self.inside.strip
    c.self.inside.flood b) (subst (λ v. v.flooded ≡ false) (sym c.self.view_is) c.requires.unflooded) c.self.invariant) c.run.ensures.links
    c.run.ensures.forest c.run.ensures.stands

pub returns-clause-standing : goal.returns-clause-standing
returns-clause-standing g c =
    fit_standing c.self.inside.shape.width c.self.inside.shape.height c.self.inside.first_row c.self.inside.end_row c.self.inside.strip c.self.invariant.sides
    c.self.invariant.start c.run.new.self c.run.ensures.links true c.run.ensures.forest c.run.ensures.stands c.args.plane.now
    (fit_after c.self.inside.shape.width c.self.inside.shape.height c.self.inside.first_row c.self.inside.end_row c.self.inside.strip c.self.inside.flood
    c.run.new.self c.self.inside.flooded true c.args.plane.now (subst (λ v. SuitsStrip v c.args.plane.now) (sym c.self.view_is) c.requires.fit))

pub returns-clause-queued : goal.returns-clause-queued
returns-clause-queued g c = c.run.ensures.queued
    ∙ ap (λ n. c.args.queued.now + n)
    (fit_defined c.self.inside.shape.width c.self.inside.shape.height c.self.inside.first_row c.self.inside.end_row c.self.inside.strip c.self.invariant.sides
    c.self.invariant.start c.run.new.self c.run.ensures.links true c.args.plane.now
    (fit_after c.self.inside.shape.width c.self.inside.shape.height c.self.inside.first_row c.self.inside.end_row c.self.inside.strip c.self.inside.flood
    c.run.new.self c.self.inside.flooded true c.args.plane.now (subst (λ v. SuitsStrip v c.args.plane.now) (sym c.self.view_is) c.requires.fit)))

pub returns-clause-looked : goal.returns-clause-looked
returns-clause-looked g c = c.run.ensures.looked
    ∙ ap (λ n. c.args.looked.now + n)
    (fit_inner c.self.inside.shape.width c.self.inside.shape.height c.self.inside.first_row c.self.inside.end_row c.self.inside.strip c.self.invariant.sides
    c.self.invariant.start c.run.new.self c.run.ensures.links true c.args.plane.now
    (fit_after c.self.inside.shape.width c.self.inside.shape.height c.self.inside.first_row c.self.inside.end_row c.self.inside.strip c.self.inside.flood
    c.run.new.self c.self.inside.flooded true c.args.plane.now (subst (λ v. SuitsStrip v c.args.plane.now) (sym c.self.view_is) c.requires.fit)))

pub run-requires-clause-strip : goal.run-requires-clause-strip
run-requires-clause-strip g c = c.self.invariant.known

pub returns-clause-flooded : goal.returns-clause-flooded
returns-clause-flooded g c = refl

pub returns-clause-width : goal.returns-clause-width
returns-clause-width g c = ap (λ (v : JobView). v.width) c.self.view_is

pub returns-clause-height : goal.returns-clause-height
returns-clause-height g c = ap (λ (v : JobView). v.height) c.self.view_is

pub returns-clause-connect : goal.returns-clause-connect
returns-clause-connect g c = ap (λ (v : JobView). v.connect) c.self.view_is

pub returns-clause-first_row : goal.returns-clause-first_row
returns-clause-first_row g c = ap (λ (v : JobView). v.first_row) c.self.view_is

pub returns-clause-end_row : goal.returns-clause-end_row
returns-clause-end_row g c = ap (λ (v : JobView). v.end_row) c.self.view_is

pub returns-clause-values : goal.returns-clause-values
returns-clause-values g c = ap (λ (v : JobView). v.values) c.self.view_is

pub returns-clause-links : goal.returns-clause-links
returns-clause-links g c = c.run.ensures.links ∙ sym (length-map _ _)

pub run-requires-clause-empty : goal.run-requires-clause-empty
run-requires-clause-empty g c = (c.self.invariant.fresh (subst (λ v. v.flooded ≡ false) (sym c.self.view_is) c.requires.unflooded)).empty
