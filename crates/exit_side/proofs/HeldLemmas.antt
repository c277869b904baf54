-- The exits, against the `BTreeMap` that holds their chains.
use Rattle.std.proofs.Common.{◌≡◌, ℕ, Some, None, is_some, refl, sym, ap, ◌∙◌}
use Rattle.std.specs.Prelude.{IsSome}
use Rattle.std.specs.FinMap as tables
use Rattle.std.specs.FinMap.{from_entries, nat_cmp-IsAntisymmetric}
use Rattle.std.specs.BTreeMap as tree
use Rattle.std.specs.BTreeMap.{BTreeMap, WritesThrough}
use Rattle.std.specs.Ordering.{nat_cmp}
use Rattle.std.specs.Cmp.{nat_cmp_total}
use Rattle.bgp_attr.specs.Routes.{Route}
use Rattle.bgp_attr.specs.declared.speaker.Profile.{Profile}
use Rattle.link_change.proofs.MapLemmas.{read_in, map_set, map_removed}
use Rattle.fanout_queue.specs.Queues.{Queued}
use Rattle.out_chain.specs.Chains.{OutChained}
use Rattle.exit_side.specs.Exits.{Exited, OutChains, chain_at, with_exit, without_exit}

-- the exits that these fields make
abbrev pub seen : Profile → Queued Route → BTreeMap ℕ OutChained → Exited
seen profile queue m = record { profile = profile; queue = queue; chains = from_entries m.entries }

module _ (profile : Profile) (queue : Queued Route) (m : BTreeMap ℕ OutChained) (e : Exited) (view : seen profile queue m ≡ e) (k : ℕ) where
  pub held : tree.get nat_cmp m k ≡ chain_at k e
  held = sym (read_in nat_cmp_total m (seen profile queue m).chains k refl) ∙ ap (chain_at k) view

  pub held_none : None ≡ tree.get nat_cmp m k → IsSome (chain_at k e) → ⊥
  held_none none some = let gone : chain_at k e ≡ None = sym (none ∙ held) in cc

module _ (profile : Profile) (was queue : Queued Route) (m n : BTreeMap ℕ OutChained) where
  -- a chain that comes, by a number that is the key
  pub held_put : (key j : ℕ) (c : OutChained) → tree.Updates nat_cmp m n key (Some c) → key ≡ j → seen profile queue n ≡ with_exit j c queue (seen profile was m)
  held_put key j c updates is = ap (λ (a : OutChains). record { profile = profile; queue = queue; chains = a }) (map_set nat_cmp_total nat_cmp-IsAntisymmetric m n (from_entries m.entries) key c refl updates.0 ∙ ap (λ (i : ℕ). tables.insert (from_entries {R = nat_cmp} m.entries) i c) is)

  -- one that is lent, and changes
  pub held_lent : (j : ℕ) (c c' : OutChained) → Some c ≡ tree.get nat_cmp m j → WritesThrough nat_cmp (nat_cmp j) m c' n → seen profile queue n ≡ with_exit j c' queue (seen profile was m)
  held_lent j c c' at written = held_put j j c' (written.3 (ap is_some (sym at))) refl

  -- one that goes
  pub held_out : (j : ℕ) → tree.Updates nat_cmp m n j None → seen profile queue n ≡ without_exit j queue (seen profile was m)
  held_out j updates = ap (λ (a : OutChains). record { profile = profile; queue = queue; chains = a }) (map_removed nat_cmp_total nat_cmp-IsAntisymmetric m n (from_entries m.entries) j refl updates.0)
