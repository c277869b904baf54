-- The rules of outgoing filters, against the `BTreeMap` that holds them.
use Rattle.router_moments.proofs.Common.{sym, ◌∙◌, ap, ◌≡◌, ℕ, List, nat_cmp_total, nat_cmp-IsAntisymmetric, nat_cmp, Rule, rules_to, Policies}
use Rattle.std.proofs.Common.{Option, Some}
use Rattle.std.specs.FinMap as tables
use Rattle.std.specs.FinMap.{from_entries}
use Rattle.std.specs.BTreeMap as tree
use Rattle.std.specs.BTreeMap.{BTreeMap}
use Rattle.link_change.proofs.MapLemmas.{map_set, read_in}
use Rattle.router_moments.specs.Moments.{rules_by}

pub policies_set : (m n : BTreeMap ℕ (List Rule)) (now : Policies) (k : ℕ) (rules : List Rule) → from_entries m.entries ≡ now → tree.Updates nat_cmp m n k (Some rules) → from_entries {R = nat_cmp} n.entries ≡ tables.insert now k rules
policies_set m n now k rules view updates = map_set nat_cmp_total nat_cmp-IsAntisymmetric m n now k rules view updates.0

pub policies_get : (m : BTreeMap ℕ (List Rule)) (now : Policies) (k : ℕ) (o : Option (List Rule)) → from_entries m.entries ≡ now → o ≡ tree.get nat_cmp m k → rules_by o ≡ rules_to k now
policies_get m now k o view is = ap rules_by (is ∙ sym (read_in nat_cmp_total m now k view))
