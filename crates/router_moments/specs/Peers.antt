-- A declared peer, where there may be one.
use Rattle.std.specs.Prelude.{Bool, false, Option, Some, None}
use Rattle.event_text.specs.declared.declared.DeclaredPeer.{DeclaredPeer}

-- whether the peer is up
abbrev pub is_up : Option DeclaredPeer → Bool
is_up None = false
is_up (Some p) = p.up
