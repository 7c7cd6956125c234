use Rattle.std.proofs.Common.{None}
use Rattle.ca_commands.proofs.options.is_absent.Goals as goal

pub returns-in-Err : goal.returns-in-Err
returns-in-Err c = ((λ no'. absurd cc), (λ none. absurd (c.in-Err.ensures.twice None none)))
