-- Laws of links and walks, for the crates above.
use Rattle.std.specs.Prelude.{◌≡◌, ℕ, Bool, true, false, List, ◌++◌, Option, Some}
use Rattle.addr4.specs.Prefixes.{AddressPrefix}
use Rattle.link_change.specs.Rows.{Rows}
use Rattle.link_change.specs.Changes.{IsSent}
use Rattle.link_change.specs.Changes.{Change}
use Rattle.journal_text.specs.Links.{same_link}
use Rattle.journal_text.specs.Names.{IsNamed, IsNamedTask, link_in, link_of, task_in, task_of}
use Rattle.journal_text.specs.Texts.{line_text, link_text, is_of_family, task_text}
use Rattle.journal_text.specs.Walk.{Links, with_link, Leads}
use Rattle.journal_text.specs.Journals.{Journaled, with_entries}
use Rattle.journal_text.specs.Values.{valued, valued_change}
use Rattle.journal_text.specs.declared.link.Link.{Link}
use Rattle.journal_text.specs.declared.link.Task.{Task}
use Rattle.journal_text.specs.Lines.{Entry}
use Rattle.journal_text.specs.Lines.{Line}
use Rattle.journal_text.specs.Lines.{Value}

-- A link is itself.
abbrev pub EachLinkIsItself : Type 0
EachLinkIsItself = (a : Link) → same_link a a ≡ true

-- Links that are the same by kind, owner and number are equal.
abbrev pub SameLinksAreEqual : Type 0
SameLinksAreEqual = (a b : Link) → same_link a b ≡ true → a ≡ b

-- Two links may be set in either order.
abbrev pub LinksAreSetInEitherOrder : Type 0 → Type 0
LinksAreSetInEitherOrder V =
    (links : Links V) (a b : Link) (x y : Option (Rows V)) → same_link a b ≡ false
    → with_link (with_link links a x) b y ≡ with_link (with_link links b y) a x

-- The entry of a change that is lawful on a live link's rows leads on, and that link's rows alone become the new ones.
abbrev pub ChangesLead : {R : Type 0} → (R → Value) → Type 0
ChangesLead {R} value =
    (links : Links Value) (link : Link) (old new : Rows R) (p : AddressPrefix) (change : Change R)
    → links link ≡ Some (valued value old) → IsSent old new p (Some change)
    → Leads links (valued_change value link change) (with_link links link (Some (valued value new)))

-- The name of a link is read back, where its numbers can stand in a name: within its network, and among the names of both.
abbrev pub LinksReadBack : Type 0
LinksReadBack = (link : Link) → IsNamed link → link_of (link_text false link) ≡ Some link

abbrev pub LinksReadBackIn : Type 0
LinksReadBackIn = (v6 : Bool) (link : Link) → IsNamed link → link_in (link_text v6 link) ≡ Some (v6, link)

-- The name of a task likewise.
abbrev pub TasksReadBack : Type 0
TasksReadBack = (task : Task) → IsNamedTask task → task_of (task_text false task) ≡ Some task

abbrev pub TasksReadBackIn : Type 0
TasksReadBackIn = (v6 : Bool) (task : Task) → IsNamedTask task → task_in (task_text v6 task) ≡ Some (v6, task)

-- Entries that are appended one after another are appended as one.
abbrev pub EntriesJoin : Type 0
EntriesJoin = (j : Journaled) (a b : List (Entry Value)) → with_entries (with_entries j a) b ≡ with_entries j (a ++ b)

-- A name that is read has numbers that can stand in a name.
abbrev pub ReadLinksAreNamed : Type 0
ReadLinksAreNamed = (text : List ℕ) (link : Link) → link_of text ≡ Some link → IsNamed link

abbrev pub ReadLinksAreNamedIn : Type 0
ReadLinksAreNamedIn = (text : List ℕ) (v6 : Bool) (link : Link) → link_in text ≡ Some (v6, link) → IsNamed link

-- A line that is of no family has one text, of whichever family the journal is.
abbrev pub LinesOfNoFamily : Type 0
LinesOfNoFamily = (line : Line) → is_of_family line ≡ false → (v6 : Bool) → line_text v6 line ≡ line_text false line
