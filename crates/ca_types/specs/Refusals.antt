-- Why a program has no typing.
use Rattle.ca_model.specs.declared.types.TypeFault.{TypeFault}
use Rattle.ca_types.specs.declared.check.TypeNo.{TypeNo}
use Rattle.ca_types.specs.declared.check.TypeNo.TheVariants as no

-- P of the fault; want of memory is free
abbrev pub IfFault : TypeNo → (TypeFault → Type 0) → Type 0
IfFault (no.Fault f) P = P f
IfFault no.NoMemory P = Unit {0}
