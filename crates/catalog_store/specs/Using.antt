-- Which entries use a name, by the entries in memory, and by the sets that are kept of them.
use Rattle.std.specs.Prelude.{ℕ, ◌&&◌, Bool, not, List, []}
use Rattle.std.specs.List.{list_any}
use Rattle.std.specs.Map.{lookup}
use Rattle.std.specs.Option.{unwrap_or}
use Rattle.std.specs.Str.{bytes_eq}
use Rattle.catalog_store.specs.declared.entry.Object.{Object as HeldObject}
use Rattle.catalog_store.specs.declared.entry.Object.TheVariants.{Table, Function as FunctionRecord}
use Rattle.catalog_store.specs.declared.entry.Object.TheVariants.{Interpreted as InterpretedRecord}
use Rattle.catalog_store.specs.declared.entry.Object.TheVariants.{Procedure as ProcedureRecord}
use Rattle.catalog_store.specs.Entries.{entry_of}
use Rattle.catalog_store.specs.Users.{is_user}

-- an object in memory with its name
abbrev pub Held : Type 0
Held = List ℕ × HeldObject

-- an entry in memory that uses a name
abbrev pub held_user : List ℕ → Held → Bool
held_user name h = is_user name (entry_of [] h.0 h.1)

-- whether an entry of the second name uses the first
abbrev pub entry_uses : List ℕ → List ℕ → List Held → Bool
entry_uses name user hs = list_any (λ h. bytes_eq user h.0 && held_user name h) hs

-- the names that an object lists as used
abbrev pub uses_of : HeldObject → List (List ℕ)
uses_of (Table row_type) = []
uses_of (FunctionRecord r) = r.head.uses
uses_of (InterpretedRecord f) = f.head.uses
uses_of (ProcedureRecord p) = p.head.uses

-- whether a name stands among those that an entry of another name uses
abbrev pub other_use : List ℕ → List ℕ → List (List ℕ) → Bool
other_use name user uses = not (bytes_eq user name) && list_any (λ used. bytes_eq used name) uses

-- those that are kept as users of a name
abbrev pub users_at : List ℕ → List (List ℕ × List (List ℕ)) → List (List ℕ)
users_at name users = unwrap_or (lookup (bytes_eq name) users) []

-- whether the second name is kept as one of a user of the first
abbrev pub has_user : List ℕ → List ℕ → List (List ℕ × List (List ℕ)) → Bool
has_user name user users = list_any (bytes_eq user) (users_at name users)
