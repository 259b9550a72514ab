-- The tables of a plan, node by node.
use Rattle.std.proofs.Common.{◌≡◌, ℕ, Bool, true, false, List, [], ◌∷◌, ◌++◌, Option, None}
use Rattle.std.proofs.Common.{Some, refl, ◌⊎◌, inl, inr, length, cond}
use Rattle.std.proofs.lemmas.Bool.{and_parts}
use Rattle.sql_values.specs.declared.value.Value.TheVariants.{Bool as Truth}
use Rattle.rel_algebra.specs.Emit.{Emitted, EmittedAll, Folded, Key, Place, Waiting, all_plain}
use Rattle.rel_algebra.specs.Emit.{all_waiting, ask, ask_member, first_value, filters, folding}
use Rattle.rel_algebra.specs.Emit.{filters_width, is_plain, joined_nodes, key_step, list_nodes}
use Rattle.rel_algebra.specs.Emit.{listed_by, none_waits, one_column, one_param, own_places, selected}
use Rattle.rel_algebra.specs.Emit.{several, test_step, values_plan, width, at, given, nowhere}
use Rattle.rel_algebra.specs.Emit.{turned, numbers, chosen, scalars_of}
use Rattle.rel_algebra.specs.Plan.{Kind, Nodes, PlanTree, Scalar, Scalars, anew, apply}
use Rattle.rel_algebra.specs.Plan.{apply_by, constant, cross, extend, extend_by, filter, group, keep}
use Rattle.rel_algebra.specs.Plan.{left_outer, member, no_node, on_each, scan, settle, sort, unit_row}
use Rattle.rel_algebra.specs.Plan.{values}
use Rattle.scanned_tables.specs.Scans.{scans, scans_in, AreWide}
use Rattle.scanned_tables.specs.declared.scans.ScannedTable.{ScannedTable}

-- each table that a plan reads is as wide by R
abbrev mutual
  pub Reads : PlanTree → (List ℕ → ℕ) → Type 0
  Reads unit_row R = Unit {0}
  Reads (scan name n) R = n ≡ R name
  Reads (values lists) R = Unit {0}
  Reads (extend ss input) R = Reads input R
  Reads (apply when kind way inner input) R = Reads inner R × Reads input R
  Reads (filter s input) R = Reads input R
  Reads (keep is input) R = Reads input R
  Reads (cross a b) R = Reads a R × Reads b R
  Reads (left_outer nodes s n a b) R = NodesRead nodes R × (Reads a R × Reads b R)
  Reads (settle input) R = Reads input R
  Reads (group keys ags input) R = Reads input R
  Reads (sort keys input) R = Reads input R

  pub NodesRead : Nodes → (List ℕ → ℕ) → Type 0
  NodesRead no_node R = Unit {0}
  NodesRead (extend_by ss rest) R = NodesRead rest R
  NodesRead (apply_by when kind way inner rest) R = Reads inner R × NodesRead rest R

-- each of the tests reads such tables
abbrev pub TestsRead : (List ℕ → ℕ) → List Emitted → Type 0
TestsRead R [] = Unit {0}
TestsRead R (a ∷ ts) = NodesRead a.nodes R × TestsRead R ts

-- each of the lists of a VALUES does
abbrev pub ListsRead : (List ℕ → ℕ) → List EmittedAll → Type 0
ListsRead R [] = Unit {0}
ListsRead R (a ∷ lists) = NodesRead a.nodes R × ListsRead R lists

-- a folded query does: its input, and its list from some width on
abbrev pub FoldRead : (List ℕ → ℕ) → Folded → Type 0
FoldRead R c = Reads c.input R × ((n : ℕ) × NodesRead (c.list n).nodes R)

-- a query that is asked does: folded, or by its plan
abbrev pub AskedRead : (List ℕ → ℕ) → Option Folded → PlanTree → Type 0
AskedRead R None p = Reads p R
AskedRead R (Some c) p = FoldRead R c

-- a query that is folded does
abbrev pub FoldedRead : (List ℕ → ℕ) → Option Folded → Type 0
FoldedRead R None = ⊥
FoldedRead R (Some c) = FoldRead R c

module _ (R : List ℕ → ℕ) where
  -- ---- from the list

  wide_left : (xs ys : List ScannedTable) → AreWide (xs ++ ys) R → AreWide xs R
  wide_left [] ys h = tt
  wide_left (x ∷ xs) ys h = (h.0, wide_left xs ys h.1)

  wide_right : (xs ys : List ScannedTable) → AreWide (xs ++ ys) R → AreWide ys R
  wide_right [] ys h = h
  wide_right (x ∷ xs) ys h = wide_right xs ys h.1

  mutual
    pub reads : (t : PlanTree) → AreWide (scans t) R → Reads t R
    reads unit_row h = tt
    reads (scan name n) h = h.0
    reads (values lists) h = tt
    reads (extend ss input) h = reads input h
    reads (apply when kind way inner input) h = (
      reads inner (wide_right (scans input) (scans inner) h),
      reads input (wide_left (scans input) (scans inner) h),
    )
    reads (filter s input) h = reads input h
    reads (keep is input) h = reads input h
    reads (cross a b) h =
        (reads a (wide_left (scans a) (scans b) h), reads b (wide_right (scans a) (scans b) h))
    reads (left_outer nodes s n a b) h =
        let more : AreWide (scans_in nodes ++ scans b) R =
        wide_right (scans a) (scans_in nodes ++ scans b) h in (
          nodes_read nodes (wide_left (scans_in nodes) (scans b) more),
          (
            reads a (wide_left (scans a) (scans_in nodes ++ scans b) h),
            reads b (wide_right (scans_in nodes) (scans b) more),
          ),
        )
    reads (settle input) h = reads input h
    reads (group keys ags input) h = reads input h
    reads (sort keys input) h = reads input h

    nodes_read : (a : Nodes) → AreWide (scans_in a) R → NodesRead a R
    nodes_read no_node h = tt
    nodes_read (extend_by ss rest) h = nodes_read rest h
    nodes_read (apply_by when kind way inner rest) h = (
      reads inner (wide_left (scans inner) (scans_in rest) h),
      nodes_read rest (wide_right (scans inner) (scans_in rest) h),
    )

  -- ---- runs

  pub left : (a b : Nodes) → NodesRead (joined_nodes a b) R → NodesRead a R
  left no_node b h = tt
  left (extend_by ss a) b h = left a b h
  left (apply_by when kind way inner a) b h = (h.0, left a b h.1)

  pub right : (a b : Nodes) → NodesRead (joined_nodes a b) R → NodesRead b R
  right no_node b h = h
  right (extend_by ss a) b h = right a b h
  right (apply_by when kind way inner a) b h = right a b h.1

  pub each : (a : Nodes) (p : PlanTree) → Reads (on_each a p) R → NodesRead a R × Reads p R
  each no_node p h = (tt, h)
  each (extend_by ss rest) p h = each rest (extend ss p) h
  each (apply_by when kind way inner rest) p h =
      let both : NodesRead rest R × Reads (apply when kind way inner p) R =
      each rest (apply when kind way inner p) h in
      ((both.1.0, both.0), both.1.1)

  -- ---- lists

  pub filters_read : (ts : List Emitted) (p : PlanTree) → Reads (filters ts p) R →
      TestsRead R ts × Reads p R
  filters_read [] p h = (tt, h)
  filters_read (a ∷ ts) p h =
      let rest : TestsRead R ts × Reads (on_each a.nodes p) R =
      filters_read ts (filter a.scalar (on_each a.nodes p)) h in
      let own : NodesRead a.nodes R × Reads p R = each a.nodes p rest.1 in
      ((own.0, rest.0), own.1)

  pub listed_read : (is : Option (List ℕ)) (a : EmittedAll) (n : ℕ) (p : PlanTree) →
      Reads (listed_by is a n p) R → NodesRead a.nodes R × Reads p R
  listed_read (Some is) a n p h = each a.nodes p h
  listed_read None a n p h =
      let both : NodesRead (joined_nodes a.nodes (extend_by a.scalars no_node)) R × Reads p R =
      each (joined_nodes a.nodes (extend_by a.scalars no_node)) p h in
      (left a.nodes (extend_by a.scalars no_node) both.0, both.1)

  pub selected_read : (tests : ℕ → List Emitted) (list : ℕ → EmittedAll) (n : ℕ) (p : PlanTree) →
      Reads (selected tests list n p) R →
      TestsRead R (tests n) × (NodesRead (list (filters_width (tests n) n)).nodes R × Reads p R)
  selected_read tests list n p h =
      let outer : NodesRead (list (filters_width (tests n) n)).nodes R
      × Reads (filters (tests n) p) R =
      listed_read (own_places (list (filters_width (tests n) n)).scalars)
      (list (filters_width (tests n) n)) (filters_width (tests n) n) (filters (tests n) p) h in
      let inner : TestsRead R (tests n) × Reads p R = filters_read (tests n) p outer.1 in
      (inner.0, (outer.0, inner.1))

  -- ---- conjuncts, one of which may wait

  after_waiting : (ts : List Emitted) (a : Emitted) (rest : List Emitted) →
      TestsRead R (ts ++ a ∷ rest) → NodesRead a.nodes R × TestsRead R rest
  after_waiting [] a rest h = h
  after_waiting (t ∷ ts) a rest h = after_waiting ts a rest h.1

  key_read : {A : Type 0} (b : Bool) (p : Place) (t : Emitted) (rest : Waiting → ℕ → List Emitted)
      (w : Waiting) (n : ℕ) → ((v : Waiting) (m : ℕ) → TestsRead R (rest v m) → A) →
      TestsRead R (key_step b p t rest w n) → A
  key_read true (at level i) t rest w n go h = go (one_column t w) n h
  key_read true (given i) t rest w n go h = go w n h.1
  key_read true nowhere t rest w n go h = go w n h.1
  key_read false (at level i) t rest w n go h = go (one_param t w) n h
  key_read false (given i) t rest w n go h = go (one_param t w) n h
  key_read false nowhere t rest w n go h = go w n h.1

  pub step_read : {A : Type 0} (key : Option Key) (a : Emitted) (rest : Waiting → ℕ → List Emitted)
      (w : Waiting) (n : ℕ) → ((v : Waiting) (m : ℕ) → TestsRead R (rest v m) → A) →
      TestsRead R (test_step key a rest w n) → (key ≡ None → NodesRead a.nodes R) × A
  step_read None a rest w n go h =
      let both : NodesRead a.nodes R × TestsRead R (rest none_waits (width a.nodes n)) =
      after_waiting (all_waiting w) a (rest none_waits (width a.nodes n)) h in
      (λ _. both.0, go none_waits (width a.nodes n) both.1)
  step_read (Some key) a rest w n go h = (
    λ none. absurd (let never = none in cc),
    key_read key.of_column key.other (turned key.own key.other) rest w n go h,
  )

  -- ---- VALUES

  all_lists : (lists : List EmittedAll) → NodesRead (list_nodes lists) R → ListsRead R lists
  all_lists [] h = tt
  all_lists (a ∷ lists) h =
      (left a.nodes (list_nodes lists) h, all_lists lists (right a.nodes (list_nodes lists) h))

  plain_nodes : (a : Nodes) → is_plain a ≡ true → NodesRead a R
  plain_nodes no_node h = tt
  plain_nodes (extend_by ss rest) h = absurd (let never = h in cc)
  plain_nodes (apply_by when kind way inner rest) h = absurd (let never = h in cc)

  plain_lists : (lists : List EmittedAll) → all_plain lists ≡ true → ListsRead R lists
  plain_lists [] h = tt
  plain_lists (a ∷ lists) h =
      let both = and_parts (is_plain a.nodes) (all_plain lists) h in
      (plain_nodes a.nodes both.0, plain_lists lists both.1)

  several_read : (k : ℕ) (lists : List EmittedAll) → Reads (several k lists) R → ListsRead R lists
  several_read k lists h =
      all_lists lists (listed_read (own_places (chosen k 0 lists))
      (record { nodes = list_nodes lists; scalars = chosen k 0 lists }) 1
      (values (numbers 0 (length lists))) h).0

  pub values_read : (k : ℕ) (lists others : List EmittedAll) → Reads (values_plan k lists others) R →
      ListsRead R lists ⊎ ListsRead R others
  values_read k [] others h = inr (several_read k others h)
  values_read k (a ∷ []) others h = inl ((listed_read (own_places a.scalars) a 0 unit_row h).0, tt)
  values_read k (a ∷ b ∷ lists) others h = by (all_plain (a ∷ b ∷ lists)) refl h
    where
      by : (t : Bool) → all_plain (a ∷ b ∷ lists) ≡ t →
          Reads (cond t (values (scalars_of (a ∷ b ∷ lists))) (several k others)) R →
          ListsRead R (a ∷ b ∷ lists) ⊎ ListsRead R others
      by true e g = inl (plain_lists (a ∷ b ∷ lists) e)
      by false e g = inr (several_read k others g)

  -- ---- queries inside

  pub ask_read : (f : Option Folded) (kind : Kind) (use_list : Scalars → Scalar) (p : PlanTree)
      (n : ℕ) → NodesRead (ask f kind use_list p n).nodes R → AskedRead R f p
  ask_read None kind use_list p n h = h.0
  ask_read (Some c) kind use_list p n h = (h.0, (n, h.1))

  pub member_read : (f : Option Folded) (a : Emitted) (p : PlanTree) (n : ℕ) →
      NodesRead (ask_member f a p n).nodes R → NodesRead a.nodes R × AskedRead R f p
  member_read None a p n h =
      let inner : Nodes = apply_by (constant (Truth true)) (member a.scalar) anew p no_node in
      (left a.nodes inner h, (right a.nodes inner h).0)
  member_read (Some c) a p n h =
      let inner : Nodes = (folding c first_value (width a.nodes n)).nodes in
      let asked : NodesRead inner R = right a.nodes inner h in (
        left a.nodes inner h,
        (asked.0, (width a.nodes n, asked.1)),
      )

  pub asked_by : {A : Type 0} (f : Option Folded) (p : PlanTree) → AskedRead R f p →
      (Reads p R → A) → (FoldedRead R f → A) → A
  asked_by None p h on_plan on_fold = on_plan h
  asked_by (Some c) p h on_plan on_fold = on_fold h
