use Rattle.std.proofs.Common.{inl, inr, refl, sym, ◌∙◌}
use Rattle.ca_model.specs.typing.Programs.{known}
use Rattle.ca_model.specs.typing.Typing.{typed_by}
use Rattle.ca_model.proofs.FirstFaults.{some_first, some_there, one_first}
use Rattle.ca_model.proofs.typing_laws.a_program_has_a_typing_or_a_fault.Goals as goal

pub returns-clause-either : goal.returns-clause-either
returns-clause-either c = λ p. elim (some_first (known p).faults) [ inl none ↦ inl (typed_by p (known p), record { sound = none; is = refl }) | inr first ↦ inr first ]

pub returns-clause-never_both : goal.returns-clause-never_both
returns-clause-never_both c = λ p t x typing first. some_there (known p).faults x typing.sound first

pub returns-clause-one_typing : goal.returns-clause-one_typing
returns-clause-one_typing c = λ p t u a b. a.is ∙ sym b.is

pub returns-clause-one_fault : goal.returns-clause-one_fault
returns-clause-one_fault c = λ p x y a b. one_first (known p).faults x y a b
