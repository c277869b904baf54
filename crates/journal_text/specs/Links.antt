-- The names of links.
use Rattle.std.specs.Prelude.{ℕ, ◌+◌, ◌==◌, ◌&&◌, Bool}
use Rattle.rib_route.specs.declared.Proto.{Proto}
use Rattle.rib_route.specs.declared.Proto.TheVariants.{Connected, Static, Ospf, Rip}
use Rattle.journal_text.specs.declared.link.Link.{Link}
use Rattle.journal_text.specs.declared.link.Link.TheVariants.{In, Peer, Filt, Res, Org, Lost, Low, Dyn, Int, Red, Best, ReadRib, Ebgp, Ibgp, Ext, Fib, Read, Outf, Adv}

abbrev pub proto_number : Proto → ℕ
proto_number Connected = 0
proto_number Static = 1
proto_number Ospf = 2
proto_number Rip = 3

-- what kind of link it is
abbrev pub kind_of : Link → ℕ
kind_of (In k) = 0
kind_of (Peer k s) = 1
kind_of (Filt k) = 2
kind_of (Res k) = 3
kind_of (Org proto) = 4
kind_of (Lost proto n) = 5
kind_of Low = 6
kind_of Dyn = 7
kind_of Int = 8
kind_of Red = 9
kind_of Best = 10
kind_of ReadRib = 11
kind_of Ebgp = 12
kind_of Ibgp = 13
kind_of Ext = 14
kind_of Fib = 15
kind_of (Read j s) = 16
kind_of (Outf j s) = 17
kind_of (Adv j s) = 18

-- whose link it is: the peer's number, or the protocol
abbrev pub owner_of : Link → ℕ
owner_of (In k) = k
owner_of (Peer k s) = k
owner_of (Filt k) = k
owner_of (Res k) = k
owner_of (Org proto) = proto_number proto
owner_of (Lost proto n) = proto_number proto
owner_of (Read j s) = j
owner_of (Outf j s) = j
owner_of (Adv j s) = j
owner_of other = 0

-- the session, or the loss
abbrev pub number_of : Link → ℕ
number_of (Peer k s) = s
number_of (Lost proto n) = n
number_of (Read j s) = s
number_of (Outf j s) = s
number_of (Adv j s) = s
number_of other = 0

abbrev pub same_link : Link → Link → Bool
same_link a b = kind_of a == kind_of b && (owner_of a == owner_of b && number_of a == number_of b)

-- the lowest link of the chain of deletion stages that a link stands in
abbrev pub base_of : Link → Link
base_of (Peer k s) = In k
base_of (Lost proto n) = Org proto
base_of other = other

-- how high a link stands in that chain: later losses stand higher
abbrev pub rank_of : Link → ℕ
rank_of (Peer k s) = s + 1
rank_of (Lost proto n) = n + 1
rank_of other = 0
