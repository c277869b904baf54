use Rattle.std.proofs.Common.{[], List, ℕ, false, ap, sym, subst}
use Rattle.router.specs.Networks.{Networks, networks_of}
use Rattle.replay.specs.Stream.{HasStepped}
use Rattle.replay.proofs.Pieces.{stepped_nothing}
use Rattle.replay.proofs.stream.Stream.new.Goals as goal

pub returns-clause-stepped : goal.returns-clause-stepped
returns-clause-stepped c =
    subst (λ (p : List ℕ). HasStepped c.args.quiet [] 1 (networks_of c.new.result) 0 p []) (sym c.new-2.ensures.items)
    (subst (λ (m : Networks). HasStepped c.args.quiet [] 1 m 0 [] []) (sym (ap networks_of c.new.ensures.value)) (stepped_nothing c.args.quiet (c.first_moment_stands.ensures false, tt)))
