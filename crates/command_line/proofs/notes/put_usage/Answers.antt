use Rattle.std.proofs.Common.{◌∙◌, ◌++◌, ap, List, ℕ, codes}
use Rattle.command_line.proofs.LineLemmas.{put_again}
use Rattle.command_line.proofs.notes.put_usage.Goals as goal

pub returns-clause-bytes : goal.returns-clause-bytes
returns-clause-bytes g c =
    put_again _ _ _ _ _ (ap (λ (l : List ℕ). codes "usage: word " ++ (l ++ codes "\n"))
    (c.as_bytes.ensures.value ∙ c.format.ensures.text)) c.put_line.ensures.bytes
