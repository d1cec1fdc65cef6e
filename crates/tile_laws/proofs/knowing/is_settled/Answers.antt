use Rattle.tile_laws.proofs.knowing.is_settled.Goals as goal

pub returns : goal.returns
returns c = (
  (λ k m. c.lies_deep.ensures.0 k),
  (λ f. c.lies_deep.ensures.1 (f (c.do_meet.ensures.0 c.if-not-do_meet.false))),
)
