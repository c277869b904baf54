-- New rules change no link.
use Rattle.std.proofs.Common.{◌≡◌, List, ap, refl}
use Rattle.link_change.specs.Rows.{Rows}
use Rattle.link_change.proofs.RowLemmas.{same_function}
use Rattle.bgp_attr.specs.Routes.{Route}
use Rattle.policy_rules.specs.Rules.{Rule}
use Rattle.journal_text.specs.declared.link.Link.{Link}
use Rattle.journal_text.specs.declared.link.Link.TheVariants.{Filt}
use Rattle.journal_text.specs.Values.{route_rows}
use Rattle.std.specs.Prelude.{cond, ◌==◌, Some, None}
use Rattle.pass_core.proofs.TurnLemmas.{an_edit_keeps_the_rows}
use Rattle.filter_bank.specs.Filtered.{filtered}
use Rattle.in_chain.specs.Incomings.{in_rows}
use Rattle.in_chain.specs.Chains.{Chained, filt_rows, links_of}
use Rattle.in_chain.specs.Steps.{refiltered}

pub refiltered_links : (rules : List Rule) (c : Chained) → links_of (refiltered rules c) ≡ links_of c
refiltered_links rules c = same_function _ _ each
  where
    same : filt_rows (refiltered rules c) ≡ filt_rows c
    same = an_edit_keeps_the_rows (filtered c.me c.peer) c.filter rules (in_rows c.incoming)

    each : (link : Link) → links_of (refiltered rules c) link ≡ links_of c link
    each (Filt k) = ap (λ (rows : Rows Route). cond (k == c.incoming.number) (Some (route_rows rows)) None) same
    each other = refl
