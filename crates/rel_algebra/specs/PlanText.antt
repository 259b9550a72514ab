-- The lines of a plan, as far as nodes go that come to the rows of an inner plan: two spaces a
-- depth, the input before the inner plan.
use Rattle.std.specs.Prelude.{ℕ, zero, suc, ◌≡◌, true, List, [], ◌∷◌, ◌++◌, codes}
use Rattle.sql_values.specs.declared.value.Value.TheVariants.{Bool as Truth}
use Rattle.rel_algebra.specs.Plan.{Kind, PlanTree, Scalar, Way, anew, column, constant, lookup}
use Rattle.rel_algebra.specs.Plan.{once, single}

-- a text, as its characters
abbrev pub Text : Type 0
Text = List ℕ

-- the texts of scalars, of kinds and of places, as #0
pub record Texts : Type 0 where
  pub scalar : Scalar → Text
  pub kind : Kind → Text
  pub place : ℕ → Text

-- a key of a Lookup, as `#n = s`
abbrev pub key_text : Texts → ℕ × Scalar → Text
key_text t k = t.place k.0 ++ (codes " = " ++ t.scalar k.1)

-- the keys, with commas between them
abbrev pub keys_text : Texts → List (ℕ × Scalar) → Text
keys_text t [] = []
keys_text t (k ∷ []) = key_text t k
keys_text t (k ∷ other ∷ keys) = key_text t k ++ (codes ", " ++ keys_text t (other ∷ keys))

-- the line of a node
abbrev pub way_text : Texts → Scalar → Kind → Way → Text
way_text t when kind anew = codes "Apply " ++ (t.scalar when ++ (codes " " ++ t.kind kind))
way_text t when kind once = codes "Once " ++ t.kind kind
way_text t when kind (lookup keys) =
    codes "Lookup " ++ (t.scalar when
    ++ (codes " " ++ (t.kind kind ++ (codes " [" ++ (keys_text t keys ++ codes "]")))))

-- a line, two spaces in for each depth
abbrev pub indented : ℕ → Text → Text
indented zero s = s
indented (suc depth) s = codes "  " ++ indented depth s

-- the line, those of the input, and those of the inner plan
abbrev pub way_lines : Texts → (PlanTree → ℕ → List Text) → Scalar → Kind → Way → PlanTree →
    PlanTree → ℕ → List Text
way_lines t lines when kind way inner input depth =
    indented depth (way_text t when kind way) ∷ lines input (suc depth) ++ lines inner (suc depth)

-- texts for the worked rows
abbrev pub sample : Texts
sample = record { scalar = λ s. codes "s"; kind = λ k. codes "exists"; place = λ i. codes "#n" }

-- worked rows: the lines of Apply, Once and Lookup
pub record WaysPrinted : Type 0 where
  pub apply_line : way_text sample (constant (Truth true)) single anew ≡ codes "Apply s exists"
  pub once_line : way_text sample (constant (Truth true)) single once ≡ codes "Once exists"
  pub lookup_line : way_text sample (constant (Truth true)) single
      (lookup ((2, column 0 0) ∷ (3, constant (Truth true)) ∷ []))
      ≡ codes "Lookup s exists [#n = s, #n = s]"
  pub no_key : way_text sample (constant (Truth true)) single (lookup [])
      ≡ codes "Lookup s exists []"
