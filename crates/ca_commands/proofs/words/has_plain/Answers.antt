use Rattle.std.proofs.Common.{false}
use Rattle.ca_commands.proofs.words.has_plain.Goals as goal

pub returns-in-Err : goal.returns-in-Err
returns-in-Err c = ((λ no'. absurd cc), (λ none. absurd (c.in-Err.ensures.twice false none)))
