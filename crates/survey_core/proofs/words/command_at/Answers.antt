use Rattle.survey_core.proofs.Wording.{front_at, has_words}
use Rattle.survey_core.proofs.words.command_at.Goals as goal

pub returns-clause-front : goal.returns-clause-front
returns-clause-front c = front_at c.args.words.now c.args.at _ _ _ c.if-at-words.false c.word_at.ensures c.command_of.ensures.command

pub returns-clause-inside : goal.returns-clause-inside
returns-clause-inside c = has_words c.args.words.now c.args.at _ _ c.if-at-words.false c.word_at.ensures c.command_of.ensures.present
