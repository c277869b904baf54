-- The types by which attributes are judged, read and placed, under names that laws of crates above can use.
use Rattle.std.proofs.Common.{ℕ}
use Rattle.bgp_wire.specs.declared.attributes.Size.{Size as Sized}
use Rattle.bgp_wire.specs.declared.attributes.Size.TheVariants as sizes
use Rattle.bgp_wire.specs.declared.attributes.TypeRule.{TypeRule as Rule}
use Rattle.bgp_wire.specs.declared.attributes.Verdict.{Verdict as Judgement}
use Rattle.bgp_wire.specs.declared.attributes.Verdict.TheVariants as verdicts
use Rattle.bgp_wire.specs.declared.multiprotocol.Reach.{Reach as Reaching}
use Rattle.bgp_wire.specs.declared.writing.attributes.Place.{Place as Stand}
use Rattle.bgp_wire.specs.declared.writing.attributes.Place.TheVariants as places

abbrev pub TypeRule : Type 0
TypeRule = Rule

abbrev pub Verdict : Type 0
Verdict = Judgement

abbrev pub keep : Verdict
keep = verdicts.Keep

abbrev pub discard : Verdict
discard = verdicts.Discard

abbrev pub withdraw : Verdict
withdraw = verdicts.Withdraw

-- by cases
pub each_verdict : (P : Verdict → Type 0) → P keep → P discard → P withdraw → (v : Verdict) → P v
each_verdict P k d w verdicts.Keep = k
each_verdict P k d w verdicts.Discard = d
each_verdict P k d w verdicts.Withdraw = w

abbrev pub Size : Type 0
Size = Sized

abbrev pub any : Size
any = sizes.Any

abbrev pub fixed : ℕ → Size
fixed n = sizes.Fixed n

abbrev pub fours : Size
fours = sizes.Fours

-- where unrecognized attributes stand
abbrev pub Place : Type 0
Place = Stand

abbrev pub first : Place
first = places.First

abbrev pub middle : Place
middle = places.Middle

abbrev pub inner : Place
inner = places.Inner

abbrev pub last : Place
last = places.Last

-- what MP_REACH_NLRI says
abbrev pub Reach : Type 0
Reach = Reaching
