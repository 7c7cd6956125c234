-- The plan without a save fits every source, and is sound.
use Rattle.std.proofs.Common.{arith, []}
use Rattle.ca_model.proofs.Members.{in_none}
use Rattle.ca_model.specs.Codes.{Typed}
use Rattle.ca_model.specs.SourceRuns.{no_plan}
use Rattle.ca_model.specs.Plans.{Fits, IsSound}

pub no_plan_fits : (p : Typed) → Fits p no_plan
no_plan_fits p = record {
  limit = omega arith;
  saves_ascend = λ k lt. omega (arith, lt);
  entries_ascend = λ k lt. omega (arith, lt);
  sites_ascend = λ k lt. omega (arith, lt);
  acquires_ascend = λ k lt. omega (arith, lt);
  saves = λ i c. absurd (in_none i c);
  entries = λ n c. absurd (in_none n c);
  sites = λ n c. absurd (in_none n c);
  acquires = λ i c. absurd (in_none i c);
}

pub no_plan_is_sound : (p : Typed) → IsSound p no_plan
no_plan_is_sound p = record {
  last = 0;
  sets = λ k. [];
  sites = λ s n c is. absurd (in_none n c);
  back = λ k i j le c next. absurd (in_none i c);
  up = λ k f le c first. absurd (in_none _ first);
}
