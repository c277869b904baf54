-- Rows of one type, as the values of a journal.
use Rattle.std.specs.Prelude.{List, [], Option, Some, None, option_map}
use Rattle.bgp_attr.specs.Attributes.{Attrs}
use Rattle.bgp_attr.specs.Routes.{Route}
use Rattle.rib_route.specs.Rows.{Interior}
use Rattle.rib_route.specs.Rows.{External}
use Rattle.rib_route.specs.Rows.{FibRow}
use Rattle.link_change.specs.Rows.{Rows}
use Rattle.link_change.specs.Changes.{Change}
use Rattle.journal_text.specs.Walk.{change_entries}
use Rattle.journal_text.specs.declared.link.Link.{Link}
use Rattle.journal_text.specs.Lines.{Value}
use Rattle.journal_text.specs.declared.value.Value.TheVariants as values
use Rattle.journal_text.specs.Lines.{Entry}

abbrev pub attrs_value : Attrs → Value
attrs_value a = values.Attrs a

abbrev pub route_value : Route → Value
route_value r = values.Route r

abbrev pub interior_value : Interior → Value
interior_value r = values.Interior r

abbrev pub external_value : External → Value
external_value r = values.External r

abbrev pub fib_value : FibRow → Value
fib_value r = values.FibRow r

-- rows, as values
abbrev pub valued : {R : Type 0} → (R → Value) → Rows R → Rows Value
valued value rows q = option_map value (rows q)

-- the entry of a change of rows on a link
abbrev pub valued_change : {R : Type 0} → (R → Value) → Link → Change R → List (Entry Value)
valued_change value link change = change_entries link change.prefix (option_map value change.before) (option_map value change.after)

-- the entry of what a stage sends
abbrev pub sent_entries : {R : Type 0} → (R → Value) → Link → Option (Change R) → List (Entry Value)
sent_entries value link None = []
sent_entries value link (Some change) = valued_change value link change

abbrev pub attrs_rows : Rows Attrs → Rows Value
attrs_rows = valued attrs_value

abbrev pub route_rows : Rows Route → Rows Value
route_rows = valued route_value

abbrev pub interior_rows : Rows Interior → Rows Value
interior_rows = valued interior_value

abbrev pub fib_rows : Rows FibRow → Rows Value
fib_rows = valued fib_value
