-- Rows, whatever the family of their addresses.
use Rattle.std.specs.Prelude.{ℕ}
use Rattle.rib_route.specs.declared.rows.Interior as interior
use Rattle.rib_route.specs.declared.rows.External as external
use Rattle.rib_route.specs.declared.rows.FibRow as forwarding

abbrev pub Interior : Type 0
Interior = interior.Interior ℕ

abbrev pub External : Type 0
External = external.External ℕ

abbrev pub FibRow : Type 0
FibRow = forwarding.FibRow ℕ
