-- What bound trees use, and whether they have plans where all that they use may be run, added up
-- over the parts of a statement, and beside it the names that were noted.
use Rattle.std.proofs.Common.{◌≡◌, refl, sym, ap, ap₂, ◌∙◌, subst, Bool, true, ◌&&◌, false, List}
use Rattle.std.proofs.Common.{[], ◌∷◌, ◌++◌, append_assoc, map, length, Option, Some}
use Rattle.std.proofs.lemmas.Bool.{and_parts, and_from}
use Rattle.std.proofs.lemmas.List.{map-append, append-nil}
use Rattle.bound_trees.specs.declared.expr.BoundExpr.{BoundExpr}
use Rattle.rel_algebra.specs.Plain.{planned_expr, planned_all}
use Rattle.catalog_store.specs.Catalog.{Catalog}
use Rattle.catalog_store.specs.declared.entry.FunctionHead.{FunctionHead}
use Rattle.catalog_store.specs.Uses.{Use, calls, reads, Uses, joined, uses_in, name_used}
use Rattle.catalog_store.specs.Uses.{names_used, SameNames, TableFits}
use Rattle.catalog_store.specs.View.{tree_of, exprs_of}
use Rattle.bind_sight.specs.declared.scope.EnclosingRoutine.{EnclosingRoutine}
use Rattle.bind_sight.specs.Sight.{Seen, may_stand}
use Rattle.bind_parts.specs.declared.aggregates.Parts.{Parts}
use Rattle.bind_parts.specs.Typed.{function_known}
use Rattle.bind_queries.proofs.Sets.{Names, same-names, same-then, same-append, same-swap}
use Rattle.bind_queries.proofs.Sets.{same-between}
use Rattle.bind_queries.proofs.Runs.{runs-same, runs-parts}
use Rattle.bind_queries.specs.Runs.{Runs, IsNew}

-- what is used, and whether all of it has a plan
pub record Mark : Type 0 where
  pub uses : Uses
  pub planned : Bool

infixr 5 ◌⊕◌
abbrev pub ◌⊕◌ : Mark → Mark → Mark
◌⊕◌ a b = record { uses = a.uses ++ b.uses; planned = a.planned && b.planned }

abbrev pub nothing : Mark
nothing = record { uses = []; planned = true }

abbrev pub names : Mark → Names
names m = names_used m.uses

-- where tables and functions are sought: the catalog, and the routine in whose body their names
-- stand
pub record Known : Type 0 where
  pub catalog : Catalog
  pub own : Option EnclosingRoutine

abbrev pub known_in : Seen → Known
known_in s = record { catalog = s.catalog; own = s.own }

module _ (known : Known) where
  -- a use that stands for a function in sight, of whatever height and with or without a plan, or
  -- for a table
  abbrev pub Stands : Use → Type 0
  Stands (calls name arguments) = (h : FunctionHead) ×
      (function_known name known.own known.catalog ≡ Some h) × (length h.parameters ≡ arguments)
  Stands (reads name) = TableFits known.catalog name

  abbrev pub AllStand : Uses → Type 0
  AllStand [] = Unit {0}
  AllStand (u ∷ us) = Stands u × AllStand us

  stand-append : (us vs : Uses) → AllStand us → AllStand vs → AllStand (us ++ vs)
  stand-append [] vs p q = q
  stand-append (u ∷ us) vs p q = (p.0, stand-append us vs p.1 q)

  stand-front : (us vs : Uses) → AllStand (us ++ vs) → AllStand us
  stand-front [] vs p = tt
  stand-front (u ∷ us) vs p = (p.0, stand-front us vs p.1)

  stand-back : (us vs : Uses) → AllStand (us ++ vs) → AllStand vs
  stand-back [] vs p = p
  stand-back (u ∷ us) vs p = stand-back us vs p.1

  -- the routine that is made is new, and a plan may use what each of these names stands for
  abbrev pub MayRun : Names → Type 0
  MayRun u = IsNew known.catalog known.own × Runs known.catalog u

  -- the names are those of the uses, which stand, and all has a plan where each function that is
  -- used has one
  abbrev pub Covers : Names → Mark → Type 0
  Covers u m = AllStand m.uses × (MayRun (names m) → m.planned ≡ true) × SameNames u (names m)

  -- the second covers what the first does
  abbrev pub Alike : Mark → Mark → Type 0
  Alike a b = (AllStand a.uses → AllStand b.uses) × (a.planned ≡ true → b.planned ≡ true) ×
      SameNames (names a) (names b)

  pub covers-as : (u : Names) (a b : Mark) → Covers u a → Alike a b → Covers u b
  covers-as u a b p q = (
    q.0 p.0,
    λ may. q.1 (p.1 (
      may.0,
      runs-same known.catalog (names b) (names a) (λ name. sym (q.2 name)) may.1,
    )),
    same-then u (names a) (names b) p.2 q.2,
  )

  pub covers-nothing : Covers [] nothing
  covers-nothing = (tt, λ may. refl, λ name. refl)

  names-both : (a b : Mark) → names (a ⊕ b) ≡ names a ++ names b
  names-both a b = map-append name_used a.uses b.uses

  pub covers-both : (u v : Names) (a b : Mark) → Covers u a → Covers v b → Covers (u ++ v) (a ⊕ b)
  covers-both u v a b p q = (
    stand-append a.uses b.uses p.0 q.0,
    λ may.
        let both = runs-parts known.catalog (names a) (names b)
        (subst (Runs known.catalog) (names-both a b) may.1) in
        and_from a.planned b.planned (p.1 (may.0, both.0)) (q.1 (may.0, both.1)),
    same-then (u ++ v) (names a ++ names b) (names (a ⊕ b))
        (same-append u (names a) v (names b) p.2 q.2) (same-names _ _ (sym (names-both a b))),
  )

  pub alike-same : (a b : Mark) → b.uses ≡ a.uses → (a.planned ≡ true → b.planned ≡ true) →
      Alike a b
  alike-same a b p q = (
    subst AllStand (sym p),
    q,
    same-names (names a) (names b)
        (ap names_used (sym p)),
  )

  pub alike-is : (a b : Mark) → b ≡ a → Alike a b
  alike-is a b p = alike-same a b (ap (λ (m : Mark). m.uses) p)
      (λ q. ap (λ (m : Mark). m.planned) p ∙ q)

  pub alike-then : (a b c : Mark) → Alike a b → Alike b c → Alike a c
  alike-then a b c p q = (
    λ x. q.0 (p.0 x),
    λ x. q.1 (p.1 x),
    same-then (names a) (names b)
        (names c) p.2 q.2,
  )

  pub alike-both : (a b c d : Mark) → Alike a b → Alike c d → Alike (a ⊕ c) (b ⊕ d)
  alike-both a b c d p q = (
    λ x. stand-append b.uses d.uses (p.0 (stand-front a.uses c.uses x))
        (q.0 (stand-back a.uses c.uses x)),
    λ x. let both = and_parts a.planned c.planned x in
        and_from b.planned d.planned (p.1 both.0) (q.1 both.1),
    same-then (names (a ⊕ c)) (names a ++ names c) (names (b ⊕ d)) (same-names _ _ (names-both a c))
        (same-then (names a ++ names c) (names b ++ names d) (names (b ⊕ d))
        (same-append (names a) (names b) (names c) (names d) p.2 q.2)
        (same-names _ _ (sym (names-both b d)))),
  )

  pub alike-self : (a : Mark) → Alike a a
  alike-self a = (λ x. x, λ x. x, λ name. refl)

  pub between : (a b c d : Mark) → Alike ((a ⊕ b) ⊕ (c ⊕ d)) ((a ⊕ c) ⊕ (b ⊕ d))
  between a b c d = (
    λ x.
        let l = stand-front (a.uses ++ b.uses) (c.uses ++ d.uses) x in
        let r = stand-back (a.uses ++ b.uses) (c.uses ++ d.uses) x in
        stand-append (a.uses ++ c.uses) (b.uses ++ d.uses)
        (stand-append a.uses c.uses (stand-front a.uses b.uses l) (stand-front c.uses d.uses r))
        (stand-append b.uses d.uses (stand-back a.uses b.uses l) (stand-back c.uses d.uses r)),
    λ x.
        let all = and_parts (a.planned && b.planned) (c.planned && d.planned) x in
        let l = and_parts a.planned b.planned all.0 in
        let r = and_parts c.planned d.planned all.1 in
        and_from (a.planned && c.planned) (b.planned && d.planned)
        (and_from a.planned c.planned l.0 r.0) (and_from b.planned d.planned l.1 r.1),
    same-then (names ((a ⊕ b) ⊕ (c ⊕ d))) ((names a ++ names b) ++ (names c ++ names d))
        (names ((a ⊕ c) ⊕ (b ⊕ d)))
        (same-names _ _ (four a b c d))
        (same-then ((names a ++ names b) ++ (names c ++ names d))
        ((names a ++ names c) ++ (names b ++ names d)) (names ((a ⊕ c) ⊕ (b ⊕ d)))
        (same-between (names a) (names b) (names c) (names d))
        (same-names _ _ (sym (four a c b d)))),
  )
    where
      four : (a b c d : Mark) → names ((a ⊕ b) ⊕ (c ⊕ d)) ≡ (names a ++ names b) ++
          (names c ++ names d)
      four a b c d = names-both (a ⊕ b) (c ⊕ d) ∙
          ap₂ (λ (x y : Names). x ++ y) (names-both a b) (names-both c d)

  -- ---- expressions

  abbrev pub mark : BoundExpr → Mark
  mark e = record { uses = uses_in e; planned = planned_expr (tree_of known.catalog e) }

  abbrev pub marks : List BoundExpr → Mark
  marks es = record {
    uses = joined (map uses_in es);
    planned =
        planned_all (exprs_of known.catalog es);
  }

  abbrev made : Uses → Bool → Mark
  made us b = record { uses = us; planned = b }

  pub and-assoc : (x y z : Bool) → (x && (y && z)) ≡ ((x && y) && z)
  and-assoc true y z = refl
  and-assoc false y z = refl

  and-true : (x : Bool) → (x && true) ≡ x
  and-true true = refl
  and-true false = refl

  pub right-nothing : (a : Mark) → (a ⊕ nothing) ≡ a
  right-nothing a = ap₂ made (append-nil a.uses) (and-true a.planned)

  pub alike-outwards : (a b c : Mark) → Alike ((a ⊕ b) ⊕ c) (a ⊕ (b ⊕ c))
  alike-outwards a b c = alike-is ((a ⊕ b) ⊕ c) (a ⊕ (b ⊕ c))
      (ap₂ made (sym (append_assoc a.uses b.uses c.uses)) (and-assoc a.planned b.planned c.planned))

  pub alike-inwards : (a b c : Mark) → Alike (a ⊕ (b ⊕ c)) ((a ⊕ b) ⊕ c)
  alike-inwards a b c = alike-is (a ⊕ (b ⊕ c)) ((a ⊕ b) ⊕ c)
      (ap₂ made (append_assoc a.uses b.uses c.uses) (sym (and-assoc a.planned b.planned c.planned)))

  pub alike-swap : (a b : Mark) → Alike (a ⊕ b) (b ⊕ a)
  alike-swap a b = (
    λ x. stand-append b.uses a.uses (stand-back a.uses b.uses x) (stand-front a.uses b.uses x),
    λ x. let both = and_parts a.planned b.planned x in and_from b.planned a.planned both.1 both.0,
    same-then (names (a ⊕ b)) (names a ++ names b) (names (b ⊕ a)) (same-names _ _ (names-both a b))
        (same-then (names a ++ names b) (names b ++ names a) (names (b ⊕ a))
        (same-swap (names a) (names b)) (same-names _ _ (sym (names-both b a)))),
  )

  pub marks-append : (xs ys : List BoundExpr) → marks (xs ++ ys) ≡ (marks xs ⊕ marks ys)
  marks-append [] ys = refl
  marks-append (x ∷ xs) ys =
      ap (λ m. mark x ⊕ m) (marks-append xs ys)
      ∙ ap₂ made (sym (append_assoc (uses_in x) (marks xs).uses (marks ys).uses))
      (and-assoc (mark x).planned (marks xs).planned (marks ys).planned)

  pub marks-one : (x : BoundExpr) → marks (x ∷ []) ≡ mark x
  marks-one x = ap₂ made (append-nil (uses_in x)) (and-true (mark x).planned)

  -- ---- parts of a group that grow

  -- After the parts there are others, and these and a mark are covered; where no aggregate may
  -- stand there are no others.
  abbrev pub Grows : Seen → Parts → Parts → Names → Mark → Type 0
  Grows s p q u t = (added : List BoundExpr) × (q.trees ≡ p.trees ++ added) ×
      Covers u (marks added ⊕ t) × (may_stand s.levels ≡ false → added ≡ [])

  pub grows-nothing : (s : Seen) (p : Parts) (u : Names) (t : Mark) → Covers u t → Grows s p p u t
  grows-nothing s p u t c = ([], sym (append-nil p.trees), c, λ m. refl)

  pub grows-as : (s : Seen) (p q : Parts) (u : Names) (a b : Mark) → Grows s p q u a → Alike a b →
      Grows s p q u b
  grows-as s p q u a b g x = (
    g.0,
    g.1,
    covers-as u (marks g.0 ⊕ a) (marks g.0 ⊕ b) g.2
        (alike-both (marks g.0) (marks g.0) a b (alike-self (marks g.0)) x),
    g.3,
  )

  pub grows-then : (s : Seen) (p q r : Parts) (u v : Names) (a b : Mark) → Grows s p q u a →
      Grows s q r v b → Grows s p r (u ++ v) (a ⊕ b)
  grows-then s p q r u v a b g h = (
    g.0 ++ h.0,
    h.1 ∙ ap (λ z. z ++ h.0) g.1 ∙ append_assoc p.trees g.0 h.0,
    covers-as (u ++ v) ((marks g.0 ⊕ a) ⊕ (marks h.0 ⊕ b)) (marks (g.0 ++ h.0) ⊕ (a ⊕ b))
        (covers-both u v (marks g.0 ⊕ a) (marks h.0 ⊕ b) g.2 h.2)
        (alike-then ((marks g.0 ⊕ a) ⊕ (marks h.0 ⊕ b)) ((marks g.0 ⊕ marks h.0) ⊕ (a ⊕ b))
        (marks (g.0 ++ h.0) ⊕ (a ⊕ b)) (between (marks g.0) a (marks h.0) b)
        (alike-is ((marks g.0 ⊕ marks h.0) ⊕ (a ⊕ b)) (marks (g.0 ++ h.0) ⊕ (a ⊕ b))
        (ap (λ m. m ⊕ (a ⊕ b)) (marks-append g.0 h.0)))),
    λ m. ap₂ (λ (x y : List BoundExpr). x ++ y) (g.3 m) (h.3 m),
  )

  -- where no aggregate may stand
  pub grown-alone : (s : Seen) (p q : Parts) (u : Names) (t : Mark) → may_stand s.levels ≡ false →
      Grows s p q u t → Covers u t
  grown-alone s p q u t m g = subst (λ es. Covers u (marks es ⊕ t)) (g.3 m) g.2
