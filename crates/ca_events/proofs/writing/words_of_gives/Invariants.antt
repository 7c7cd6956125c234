use Rattle.std.proofs.Common.{◌≡◌, ◌++◌, drop, string_bytes}
use Rattle.ca_model.specs.Traces.{gives_text}
use Rattle.ca_events.proofs.writing.words_of_gives.Given as goal

abbrev pub invariant-gives : goal.invariant-gives
invariant-gives l = string_bytes l.text ++ gives_text (drop l.given-index l.gives) ≡ gives_text l.gives
