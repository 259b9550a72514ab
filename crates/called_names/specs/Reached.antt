-- Which functions a query reaches whose bodies are statements: those that it calls, and those that
-- such functions use, lowest first. ISO/IEC 9075-2, 10.4 (routine invocation).
use Rattle.std.specs.Prelude.{ℕ, zero, suc, Bool, List, [], ◌∷◌, ◌++◌, length, Option, Some}
use Rattle.std.specs.Prelude.{if◌then◌else◌}
use Rattle.std.specs.List.{list_any}
use Rattle.std.specs.Str.{bytes_eq}
use Rattle.bound_trees.specs.declared.query.BoundQuery.{BoundQuery}
use Rattle.catalog_store.specs.Catalog.{Catalog, InterpretedObject, Object, object_named}
use Rattle.catalog_store.specs.Uses.{uses_in_query}
use Rattle.called_names.specs.Called.{called}

-- names, one after another
abbrev pub Names : Type 0
Names = List (List ℕ)

-- whether a name is among others
abbrev pub is_among : List ℕ → Names → Bool
is_among name names = list_any (λ n. bytes_eq n name) names

-- a step for each of some names in turn
abbrev pub in_turn : (List ℕ → Names → Names) → Names → Names → Names
in_turn step [] done = done
in_turn step (name ∷ names) done = in_turn step names (step name done)

-- A function whose body is a statement comes after what it uses, for each of which there is a step;
-- of anything else nothing comes.
abbrev pub after_uses : (List ℕ → Names → Names) → List ℕ → Option Object → Names → Names
after_uses step name (Some (InterpretedObject f)) done = in_turn step f.uses done ++ name ∷ []
after_uses step name _ done = done

-- The functions that a name reaches by so many steps at most, after those that were reached before
-- it, each once.
abbrev pub reach : ℕ → Catalog → List ℕ → Names → Names
reach zero known name done = done
reach (suc steps) known name done =
    if is_among name done then done
    else after_uses (reach steps known) name (object_named name known) done

-- Those that a query reaches, each after those that it uses. Since what is used was made before, no
-- way has more steps than the catalog has entries.
abbrev pub reached : Catalog → BoundQuery → Names
reached known q = in_turn (reach (length known) known) (called (uses_in_query q)) []
