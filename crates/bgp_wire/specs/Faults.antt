-- What is read, or the first fault.
use Rattle.std.specs.Prelude.{◌≡◌, ℕ, List, Option, Some, None, Result, Ok, Err}
use Rattle.bgp_wire.specs.declared.notice.FaultKind.{FaultKind}
use Rattle.bgp_wire.specs.declared.notice.FaultKind.TheVariants.{NotSynchronized, BadMessageLength, BadMessageType, MalformedAttributes, UnrecognizedWellKnown, MissingWellKnown, BadFlags, BadLength, BadOrigin, BadNextHop, BadOptional, BadNetwork, MalformedPath}
use Rattle.bgp_wire.specs.declared.notice.Notice.{Notice}
use Rattle.bgp_wire.specs.declared.notice.Refusal.{Refusal}
use Rattle.bgp_wire.specs.declared.notice.Refusal.TheVariants as refusals

-- the faults by code and subcode (RFC 4271, section 4.5): those of headers, and those of UPDATEs
abbrev pub code_of : FaultKind → ℕ
code_of NotSynchronized = 1
code_of BadMessageLength = 1
code_of BadMessageType = 1
code_of MalformedAttributes = 3
code_of UnrecognizedWellKnown = 3
code_of MissingWellKnown = 3
code_of BadFlags = 3
code_of BadLength = 3
code_of BadOrigin = 3
code_of BadNextHop = 3
code_of BadOptional = 3
code_of BadNetwork = 3
code_of MalformedPath = 3

abbrev pub subcode_of : FaultKind → ℕ
subcode_of NotSynchronized = 1
subcode_of BadMessageLength = 2
subcode_of BadMessageType = 3
subcode_of MalformedAttributes = 1
subcode_of UnrecognizedWellKnown = 2
subcode_of MissingWellKnown = 3
subcode_of BadFlags = 4
subcode_of BadLength = 5
subcode_of BadOrigin = 6
subcode_of BadNextHop = 8
subcode_of BadOptional = 9
subcode_of BadNetwork = 10
subcode_of MalformedPath = 11

-- a fault: code, subcode and data of the NOTIFICATION that answers it
abbrev pub notice : ℕ → ℕ → List ℕ → Notice
notice code subcode octets = record { code = code; subcode = subcode; octets = octets }

infixl 10 ◌>>=◌
abbrev pub ◌>>=◌ : {A B : Type 0} → Result A Notice → (A → Result B Notice) → Result B Notice
(Ok x) >>= f = f x
(Err e) >>= f = Err e

abbrev pub err_of : {A : Type 0} → Result A Notice → Option Notice
err_of (Ok x) = None
err_of (Err n) = Some n

-- the fault that was read, unless memory ran out
abbrev pub Fails : {Y : Type 0} → Refusal → Result Y Notice → Type 0
Fails refusals.Memory read = Unit {0}
Fails (refusals.Fault n) read = read ≡ Err n

-- what was read, seen by view, or its fault, unless memory ran out
abbrev pub Gives : {X Y : Type 0} → (X → Y) → Result X Refusal → Result Y Notice → Type 0
Gives view (Ok x) read = read ≡ Ok (view x)
Gives view (Err e) read = Fails e read

-- this fault, unless memory ran out
abbrev pub Refuses : Refusal → Notice → Type 0
Refuses refusals.Memory n = Unit {0}
Refuses (refusals.Fault m) n = n ≡ m
