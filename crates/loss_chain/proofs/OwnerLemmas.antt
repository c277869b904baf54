-- The names of an owner's links.
use Rattle.std.proofs.Common.{◌≡◌, ℕ, ◌+◌, List, true, refl, sym, subst}
use Rattle.std.proofs.lemmas.Bool.{eq-eqb}
use Rattle.loss_chain.specs.Lost.{Lost}
use Rattle.rib_route.specs.declared.Proto.{Proto}
use Rattle.rib_route.specs.declared.Proto.TheVariants.{Connected, Static, Ospf, Rip}
use Rattle.journal_text.specs.Links.{rank_of}
use Rattle.loss_chain.specs.declared.owner.Owner.{Owner}
use Rattle.loss_chain.specs.declared.owner.Owner.TheVariants.{Peer, Origin}
use Rattle.loss_chain.specs.Owners.{lowest_link, lost_link, same_proto, is_owned}
use Rattle.loss_chain.specs.Parts.{IsRisingFrom}

pub rank_lost : (o : Owner) (n : ℕ) → rank_of (lost_link o n) ≡ n + 1
rank_lost (Peer k) n = refl
rank_lost (Origin p) n = refl

pub rank_lowest : (o : Owner) → rank_of (lowest_link o) ≡ 0
rank_lowest (Peer k) = refl
rank_lowest (Origin p) = refl

pub proto_itself : (p : Proto) → same_proto p p ≡ true
proto_itself Connected = refl
proto_itself Static = refl
proto_itself Ospf = refl
proto_itself Rip = refl

pub owns_lowest : (o : Owner) → is_owned o (lowest_link o) ≡ true
owns_lowest (Peer k) = eq-eqb k k refl
owns_lowest (Origin p) = proto_itself p

pub owns_lost : (o : Owner) (n : ℕ) → is_owned o (lost_link o n) ≡ true
owns_lost (Peer k) n = eq-eqb k k refl
owns_lost (Origin p) n = proto_itself p

-- the losses above one are later
pub rising_at : {R : Type 0} (o : Owner) (n : ℕ) (ds : List (Lost R)) → IsRisingFrom (n + 1) ds → IsRisingFrom (rank_of (lost_link o n)) ds
rising_at o n ds rising = subst (λ (r : ℕ). IsRisingFrom r ds) (sym (rank_lost o n)) rising

pub rising_after : {R : Type 0} (o : Owner) (n : ℕ) (ds : List (Lost R)) → IsRisingFrom (rank_of (lost_link o n)) ds → IsRisingFrom (n + 1) ds
rising_after o n ds rising = subst (λ (r : ℕ). IsRisingFrom r ds) (rank_lost o n) rising
