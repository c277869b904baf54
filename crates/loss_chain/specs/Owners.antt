-- Whose losses the stages of a chain are, and how the links between them are named.
use Rattle.std.specs.Prelude.{ℕ, ◌==◌, Bool, false}
use Rattle.rib_route.specs.declared.Proto.{Proto}
use Rattle.journal_text.specs.Links.{proto_number}
use Rattle.journal_text.specs.declared.link.Link.{Link}
use Rattle.journal_text.specs.declared.link.Link.TheVariants as names
use Rattle.journal_text.specs.declared.link.Task.{Task}
use Rattle.journal_text.specs.declared.link.Task.TheVariants.{Del, Rdel}
use Rattle.loss_chain.specs.declared.owner.Owner.{Owner}
use Rattle.loss_chain.specs.declared.owner.Owner.TheVariants.{Peer, Origin}

-- the link out of the lowest stage: `in.K`, or `org.PROTO`
abbrev pub lowest_link : Owner → Link
lowest_link (Peer k) = names.In k
lowest_link (Origin proto) = names.Org proto

-- the link into the stage of a loss: `peer.K.S`, or `org.PROTO.N`
abbrev pub lost_link : Owner → ℕ → Link
lost_link (Peer k) n = names.Peer k n
lost_link (Origin proto) n = names.Lost proto n

-- the task of the stage of a loss: `del.K.S`, or `rdel.PROTO.N`
abbrev pub loss_task : Owner → ℕ → Task
loss_task (Peer k) n = Del k n
loss_task (Origin proto) n = Rdel proto n

abbrev pub same_proto : Proto → Proto → Bool
same_proto a b = proto_number a == proto_number b

-- the link is named as one of the owner's: the lowest, or that of any loss
abbrev pub is_owned : Owner → Link → Bool
is_owned (Peer k) (names.In j) = j == k
is_owned (Peer k) (names.Peer j s) = j == k
is_owned (Peer k) other = false
is_owned (Origin proto) (names.Org p) = same_proto p proto
is_owned (Origin proto) (names.Lost p n) = same_proto p proto
is_owned (Origin proto) other = false
