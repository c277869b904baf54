use Rattle.router_moments.proofs.Common.{sym, subst, ◌∙◌, ap, ◌≡◌, ℕ, List, arith, ◌≤◌, ◌<◌, AllByRecursion}
use Rattle.std.proofs.Common.{◌^◌, ◌∷◌, length}
use Rattle.bgp_wire.proofs.SpelledLengths.{length-framed}
use Rattle.router_core.proofs.steps.spelled.Goals as goal

pub returns-clause-message : goal.returns-clause-message
returns-clause-message c =
    let size = length-framed 3 (c.args.notice.code ∷ c.args.notice.subcode ∷ c.as_slice.result.now) in
    let same : length c.as_slice.result.now ≡ length c.args.notice.octets = ap (λ (l : List ℕ). length l) c.as_slice.ensures in
    record {
      each = subst (λ (l : List ℕ). AllByRecursion (λ b. b < 2 ^ 8) l) (c.as_slice-2.ensures.value ∙ sym c.from_vec.ensures) c.each_known.ensures;
      few = subst (λ (l : List ℕ). length l ≤ 4096) (sym (c.from_vec.ensures ∙ c.in_ok-octets.ensures)) (omega (arith, size, same, c.requires));
    }
