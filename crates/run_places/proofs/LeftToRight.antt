-- FROM made from left to right gives what the nested joins give. ISO/IEC 9075-2, 7.5 (from clause)
-- and 7.10 (joined table).
use Rattle.std.proofs.Common.{ℕ, ◌≡◌, ◌<◌, ◌+◌, ◌∷◌, [], List, Option, Some, None, length, drop}
use Rattle.std.proofs.Common.{get_or, map, refl, sym, ap, ◌∙◌, subst, Result, Ok, Err}
use Rattle.std.specs.Option.{option_map}
use Rattle.bound_trees.specs.declared.expr.BoundExpr.{BoundExpr}
use Rattle.bound_trees.specs.declared.query.BoundFromItem.{BoundFromItem}
use Rattle.bound_trees.specs.declared.query.BoundFromItem.TheVariants.{Comma, Cross as Crossing}
use Rattle.bound_trees.specs.declared.query.BoundFromItem.TheVariants.{Inner as InnerJoin}
use Rattle.bound_trees.specs.declared.query.BoundFromItem.TheVariants.{Left as LeftJoin}
use Rattle.bound_trees.specs.declared.query.BoundSource.{BoundSource}
use Rattle.bound_trees.specs.declared.query.BoundSelect.{BoundSelect, out-BoundSelect}
use Rattle.bound_trees.specs.declared.query.BoundGrouping.{BoundGrouping}
use Rattle.row_types.specs.Rows.{Row}
use Rattle.rel_algebra.specs.Tree.{Exprs, From, Cross, Inner, LeftOuter, Query}
use Rattle.rel_algebra.specs.World.{World, Frame, Ends, Eval, after, give, Called}
use Rattle.rel_algebra.specs.Meaning.{from_rows, answer}
use Rattle.rel_algebra.specs.Joins.{pairs, from_width, table_width}
use Rattle.routine_views.specs.Views.{Known}
use Rattle.catalog_store.specs.View.{Joining, after_comma, crossing, matching, matching_or_nulls}
use Rattle.catalog_store.specs.View.{itself, Joined, beside, closed, grown, all_grown, begun}
use Rattle.catalog_store.specs.View.{from_of, selected}
use Rattle.run_places.specs.Views.{item_in, source_in, exprs_in, select_in, grouping_in}
use Rattle.run_rows.specs.declared.from.JoinedRows.{JoinedRows}
use Rattle.run_choices.specs.declared.stop.Stop.{Stop}
use Rattle.run_choices.specs.Ending.{TellsAnywhere}
use Rattle.run_expressions.specs.Content.{Content, world_of}
use Rattle.run_expressions.specs.Ending.{Ended}
use Rattle.run_expressions.specs.Following.{Follows}
use Rattle.run_places.specs.Groups.{records_by, grouped_by}
use Rattle.run_rows.specs.Joins.{beside_rows, closed_rows, with_current, past_comma, crossed}
use Rattle.run_places.specs.Joins.{matched, joined_on, joined_to, one_joined, all_joined}
use Rattle.run_places.proofs.Seen.{select_in-parts, item_in-Comma, item_in-Cross, item_in-Inner}
use Rattle.run_places.proofs.Seen.{item_in-Left}
use Rattle.run_places.proofs.Grouping.{one_by_one_or_grouped, selected_is}
use Rattle.run_places.proofs.RowByRow.{row_by_row}
use Rattle.run_expressions.proofs.Laws.{Going, going, goes_on, stops, ends_as, follows, after_give}
use Rattle.run_expressions.proofs.Laws.{after_after, deep, stays_same}
use Rattle.run_places.proofs.Trees.{rest}

abbrev joined : Option (List Row) → List Row → JoinedRows
joined before current = record { before = before; current = current }

abbrev rows_by : Called → From → List Row → Frame → Eval (List Row)
rows_by self g outer f = from_rows g self outer f

-- the rows of what stands before the last comma, and then of what stands after it
abbrev so_far : Called → Option From → From → List Row → Frame → Eval JoinedRows
so_far self None c outer f w = after (rows_by self c outer f w) (λ x. give (joined None x))
so_far self (Some b) c outer f w = after (rows_by self b outer f w)
    (λ l v. after (rows_by self c outer f v) (λ x. give (joined (Some l) x)))

-- ---- one item more, by what it makes of the rows on its two sides

abbrev Part : Type 0
Part = List Row → List Row → Eval (List Row)

abbrev further : Called → From → Part → List Row → Frame → (JoinedRows → Eval (List Row)) →
    JoinedRows →
    Eval (List Row)
further self g part outer f next j u = after (rows_by self g outer f u)
    (λ r v. after (after (part j.current r v) (λ x. give (with_current j x))) next)

-- the join of what stands left and right of it
abbrev IsJoin : Called → From → From → From → Part → List Row → Frame → Type 0
IsJoin self whole c g part outer f = (v : World) → rows_by self whole outer f v ≡ after
    (rows_by self c outer f v)
    (λ x u. after (rows_by self g outer f u) (λ r. part x r))

joins_within : (self : Called) (before : Option (List Row)) (c g : From) (part : Part)
    (outer : List Row)
    (f : Frame) (next : JoinedRows → Eval (List Row)) (v : World) →
    after (rows_by self c outer f v) (λ x u. further self g part outer f next (joined before x) u) ≡
    after
    (rows_by self c outer f v) (λ x u. after (rows_by self g outer f u)
    (λ r z. after (part x r z) (λ y. next (joined before y))))
joins_within self before c g part outer f next v =
    λ i. after (rows_by self c outer f v) (λ x u. after (rows_by self g outer f u)
    (λ r z. after_after (part x r z) (λ y. give (joined before y)) next i))

joins_after : (self : Called) (before : Option (List Row)) (whole c g : From) (part : Part)
    (outer : List Row)
    (f : Frame) → IsJoin self whole c g part outer f →
    (next : JoinedRows → Eval (List Row)) (v : World) →
    after (rows_by self c outer f v) (λ x u. further self g part outer f next (joined before x) u) ≡
    after
    (rows_by self whole outer f v) (λ y. next (joined before y))
joins_after self before whole c g part outer f is next v =
    joins_within self before c g part outer f next v
    ∙ sym (ap (λ e. after e (λ y. next (joined before y))) (is v) ∙
    deep (rows_by self c outer f v) (λ x. rows_by self g outer f) (λ x r. part x r)
    (λ y. next (joined before y)))

joins_all : (self : Called) (b whole c g : From) (part : Part) (outer : List Row) (f : Frame) →
    IsJoin self whole c g part outer f → (next : JoinedRows → Eval (List Row)) (w : World) →
    after (rows_by self b outer f w) (λ l v. after (rows_by self c outer f v)
    (λ x u. further self g part outer f next (joined (Some l) x) u)) ≡ after
    (rows_by self b outer f w)
    (λ l v. after (rows_by self whole outer f v) (λ y. next (joined (Some l) y)))
joins_all self b whole c g part outer f is next w =
    λ i. after (rows_by self b outer f w) (λ l v. joins_after self (Some l) whole c g part outer f
    is next v
    i)

joins : (self : Called) (b : Option From) (whole c g : From) (part : Part) (outer : List Row)
    (f : Frame) →
    IsJoin self whole c g part outer f → (next : JoinedRows → Eval (List Row)) (w : World) →
    after (so_far self b c outer f w) (further self g part outer f next) ≡ after
    (so_far self b whole outer f w)
    next
joins self None whole c g part outer f is next w =
    after_after (rows_by self c outer f w) (λ x. give (joined None x))
    (further self g part outer f next) ∙
    joins_after self None whole c g part outer f is next w
    ∙ sym (after_after (rows_by self whole outer f w) (λ y. give (joined None y)) next)
joins self (Some b) whole c g part outer f is next w =
    deep (rows_by self b outer f w) (λ l. rows_by self c outer f) (λ l x. give (joined (Some l) x))
    (further self g part outer f next) ∙ joins_all self b whole c g part outer f is next w
    ∙ sym (deep (rows_by self b outer f w) (λ l. rows_by self whole outer f)
    (λ l y. give (joined (Some l) y))
    next)

-- a comma: all that stands before it is one side
abbrev comma_step : Called → From → List Row → Frame → (JoinedRows → Eval (List Row)) → JoinedRows →
    Eval (List Row)
comma_step self g outer f next j u = after (rows_by self g outer f u)
    (λ r. next (joined (Some (beside_rows j.before j.current)) r))

commas : (self : Called) (b : Option From) (c g : From) (outer : List Row) (f : Frame)
    (next : JoinedRows → Eval (List Row)) (w : World) →
    after (so_far self b c outer f w) (comma_step self g outer f next) ≡ after
    (so_far self (Some (beside b c)) g outer f w) next
commas self None c g outer f next w =
    after_after (rows_by self c outer f w) (λ x. give (joined None x))
    (comma_step self g outer f next) ∙
    sym (deep (rows_by self c outer f w) (λ x. rows_by self g outer f)
    (λ x r. give (joined (Some x) r))
    next)
commas self (Some b) c g outer f next w =
    deep (rows_by self b outer f w) (λ l. rows_by self c outer f) (λ l x. give (joined (Some l) x))
    (comma_step self g outer f next)
    ∙ sym (deep (rows_by self (Cross b c) outer f w) (λ x. rows_by self g outer f)
    (λ x r. give (joined (Some x) r)) next
    ∙ deep (rows_by self b outer f w) (λ l. rows_by self c outer f) (λ l r. give (pairs l r))
    (λ x u. after (rows_by self g outer f u) (λ r. next (joined (Some x) r))))

-- JOIN goes left row by left row
inner_is : (self : Called) (c g : From) (on : Exprs) (outer : List Row) (f : Frame) (v : World) →
    rows_by self (Inner c g on) outer f v ≡ after (rows_by self c outer f v)
    (λ x u. after (rows_by self g outer f u) (λ r. matched self on None outer f x r))
inner_is self c g on outer f v = λ i. after (rows_by self c outer f v)
    (λ x u. after (rows_by self g outer f u) (λ r z. row_by_row self on outer f x r z i))

-- ---- all items

grows : (self : Called) (j : Joined) (i : Joining) (outer : List Row) (f : Frame)
    (next : JoinedRows → Eval (List Row)) (w : World) →
    after (so_far self j.before j.current outer f w)
    (λ x u. after (rows_by self (itself i) outer f u)
    (λ r v. after (joined_to self x i outer f r v) next)) ≡ after
    (so_far self (grown j i).before (grown j i).current outer f w) next
grows self j (after_comma g) outer f next w = commas self j.before j.current g outer f next w
grows self j (crossing g) outer f next w = joins self j.before (Cross j.current g) j.current g
    (λ l r. give (pairs l r)) outer f (λ v. refl) next w
grows self j (matching g on) outer f next w = joins self j.before (Inner j.current g on) j.current g
    (λ l r. matched self on None outer f l r) outer f (λ v. inner_is self j.current g on outer f v)
    next w
grows self j (matching_or_nulls g on) outer f next w =
    joins self j.before (LeftOuter j.current g on) j.current g
    (λ l r v. matched self on (Some (from_width g (table_width v.tables))) outer f l r v) outer f
    (λ v. refl) next w

closes : (self : Called) (b : Option From) (c : From) (outer : List Row) (f : Frame) (w : World) →
    rows_by self (beside b c) outer f w ≡ after (so_far self b c outer f w)
    (λ x. give (closed_rows (Some x)))
closes self None c outer f w = sym (after_after (rows_by self c outer f w)
    (λ x. give (joined None x))
    (λ x. give (closed_rows (Some x))) ∙ after_give (rows_by self c outer f w))
closes self (Some b) c outer f w = sym (deep (rows_by self b outer f w)
    (λ l. rows_by self c outer f)
    (λ l x. give (joined (Some l) x)) (λ x. give (closed_rows (Some x))))

from_there : (self : Called) (is : List Joining) (j : Joined) (outer : List Row) (f : Frame)
    (w : World) →
    rows_by self (closed (all_grown j is)) outer f w ≡ after (so_far self j.before j.current outer f
    w)
    (λ x. all_joined self is outer f (Some x))
from_there self [] j outer f w = closes self j.before j.current outer f w
from_there self (i ∷ is) j outer f w = from_there self is (grown j i) outer f w ∙
    sym (grows self j i outer f (λ x. all_joined self is outer f (Some x)) w)

-- from the first item on
pub from_left : (self : Called) (is : List Joining) (outer : List Row) (f : Frame) (w : World) →
    from_rows (from_of is) self outer f w ≡ all_joined self is outer f None w
from_left self [] outer f w = refl
from_left self (i ∷ is) outer f w = from_there self is (begun i) outer f w ∙
    after_after (rows_by self (itself i) outer f w) (λ x. give (joined None x))
    (λ x. all_joined self is outer f (Some x))

-- ---- one item more, as the code makes it

-- the rows of JOIN after the last comma
pub on_ends : (self : Called) (on : Exprs) (nulls : Option ℕ) (j : JoinedRows)
    (left right rows : List Row)
    (outer : List Row) (f : Frame) (old new : Content) (found : Result (List Row) Stop)
    (r : Result JoinedRows Stop) → left ≡ j.current → right ≡ rows →
    Ended old new found (matched self on nulls outer f left right (world_of old)) →
    Follows found r (λ x. give (with_current j x)) →
    Ended old new r (joined_on self j on nulls outer f rows (world_of old))
on_ends self on nulls j left right rows outer f old new found r left_is right_is d made =
    let w = world_of old in
    subst (λ (e : Ends JoinedRows). Ended old new r e)
    (ap (λ (ls : List Row). after (matched self on nulls outer f ls right w)
    (λ x. give (with_current j x))) left_is
    ∙ ap (λ (rs : List Row). after (matched self on nulls outer f j.current rs w)
    (λ x. give (with_current j x))) right_is)
    (follows old new found r (matched self on nulls outer f left right w)
    (λ x. give (with_current j x)) made d)

module _ (self : Called) (k : Known) (item : BoundFromItem) (o : Option JoinedRows) (j : JoinedRows)
    (rows : List Row) (outer : List Row) (f : Frame) (old : Content) (there : o ≡ Some j) where
  -- as an item of this form says
  formed : (m : Joining) (new : Content) (r : Result JoinedRows Stop) → item_in k item ≡ m →
      Ended old new r (joined_to self j m outer f rows (world_of old)) →
      Ended old new r (one_joined self o (item_in k item) outer f rows (world_of old))
  formed m new r is d = subst (λ (e : Ends JoinedRows). Ended old new r e)
      (sym (ap (λ (p : Option JoinedRows). one_joined self p (item_in k item) outer f rows
      (world_of old)) there
      ∙ ap (λ (i : Joining). joined_to self j i outer f rows (world_of old)) is)) d

  pub comma_ends : (source : BoundSource) (r : Result JoinedRows Stop) → item ≡ Comma source →
      TellsAnywhere r (give (past_comma j rows)) →
      Ended old old r (one_joined self o (item_in k item) outer f rows (world_of old))
  comma_ends source r is d = formed (after_comma (source_in k source)) old r
      (ap (item_in k) is ∙ item_in-Comma k source)
      (record { tells = d (world_of old); stays = stays_same old })

  pub cross_ends : (source : BoundSource) (r : Result JoinedRows Stop) → item ≡ Crossing source →
      TellsAnywhere r (give (crossed j rows)) →
      Ended old old r (one_joined self o (item_in k item) outer f rows (world_of old))
  cross_ends source r is d = formed (crossing (source_in k source)) old r
      (ap (item_in k) is ∙ item_in-Cross k source)
      (record { tells = d (world_of old); stays = stays_same old })

  pub inner_ends : (source : BoundSource) (on xs : List BoundExpr) (new : Content)
      (r : Result JoinedRows Stop) → item ≡ InnerJoin source on → xs ≡ on →
      Ended old new r (joined_on self j (exprs_in k xs) None outer f rows (world_of old)) →
      Ended old new r (one_joined self o (item_in k item) outer f rows (world_of old))
  inner_ends source on xs new r is same d =
      formed (matching (source_in k source) (exprs_in k on)) new r
      (ap (item_in k) is ∙ item_in-Inner k source on)
      (subst (λ (es : List BoundExpr). Ended old new r (joined_on self j (exprs_in k es) None outer
      f
      rows (world_of old))) same d)

  pub left_ends : (source : BoundSource) (on xs : List BoundExpr) (n : ℕ) (new : Content)
      (r : Result JoinedRows Stop) → item ≡ LeftJoin source on → xs ≡ on →
      n ≡ from_width (source_in k source) (table_width old.memory.tables) →
      Ended old new r (joined_on self j (exprs_in k xs) (Some n) outer f rows (world_of old)) →
      Ended old new r (one_joined self o (item_in k item) outer f rows (world_of old))
  left_ends source on xs n new r is same counted d =
      formed (matching_or_nulls (source_in k source) (exprs_in k on)) new r
      (ap (item_in k) is ∙ item_in-Left k source on)
      (subst (λ (m : ℕ). Ended old new r (joined_on self j (exprs_in k on) (Some m) outer f rows
      (world_of old))) counted
      (subst (λ (es : List BoundExpr). Ended old new r (joined_on self j (exprs_in k es) (Some n)
      outer f
      rows (world_of old))) same d))

-- ---- the loop over items

-- what is left begins with an item
abbrev onward : Called → Joining → List Joining → List Row → Frame → Option JoinedRows → List Row →
    Eval (List Row)
onward self i is outer f j rows u = after (one_joined self j i outer f rows u)
    (λ more. all_joined self is outer f (Some more))

module _ (self : Called) (k : Known) (xs : List BoundFromItem) (i : ℕ) (x : BoundFromItem)
    (s : BoundSource)
    (outer : List Row) (f : Frame) (j : Option JoinedRows) where
  abbrev left : Eval (List Row)
  left = all_joined self (map (item_in k) (drop i xs)) outer f j

  abbrev later : List Joining
  later = map (item_in k) (drop (i + 1) xs)

  items_at : (w : World) → i < length xs → x ≡ get_or xs i x →
      source_in k s ≡ itself (item_in k x) → left w ≡ after (rows_by self (source_in k s) outer f w)
      (onward self (item_in k x) later outer f j)
  items_at w h is of =
      ap (λ (ys : List BoundFromItem). all_joined self (map (item_in k) ys) outer f j w)
      (rest xs i x h is)
      ∙ ap (λ (g : From). after (rows_by self g outer f w) (onward self (item_in k x) later outer f
      j))
      (sym of)

  -- its rows can't be made
  pub item_stops : (old now new : Content) (s' : Stop) (whole : Ends (List Row))
      (r : Result (List Row) Stop) → i < length xs → x ≡ get_or xs i x →
      source_in k s ≡ itself (item_in k x) →
      Going old now (left (world_of now)) whole →
      Ended {A = List Row} now new (Err s')
      (from_rows (source_in k s) self outer f (world_of now)) → r ≡ Err s' →
      Ended old new r whole
  item_stops old now new s' whole r h is of g d answer =
      stops old now new s' (rows_by self (source_in k s) outer f (world_of now))
      (onward self (item_in k x) later outer f j) (left (world_of now)) whole r
      (items_at (world_of now) h is of) g d answer

  -- its rows are made
  item_made : (old now new : Content) (rows : List Row) (whole : Ends (List Row)) → i < length xs →
      x ≡ get_or xs i x → source_in k s ≡ itself (item_in k x) →
      Going old now (left (world_of now)) whole →
      Ended now new (Ok rows) (from_rows (source_in k s) self outer f (world_of now)) →
      Going old new (onward self (item_in k x) later outer f j rows (world_of new)) whole
  item_made old now new rows whole h is of g d =
      goes_on old now new rows (rows_by self (source_in k s) outer f (world_of now))
      (onward self (item_in k x) later outer f j) (left (world_of now)) whole
      (items_at (world_of now) h is of) g d

  -- it can't be joined to those before it
  pub join_stops : (old now made new : Content) (rows : List Row) (s' : Stop)
      (whole : Ends (List Row)) (r : Result (List Row) Stop) → i < length xs → x ≡ get_or xs i x →
      source_in k s ≡ itself (item_in k x) → Going old now (left (world_of now)) whole →
      Ended now made (Ok rows) (from_rows (source_in k s) self outer f (world_of now)) →
      Ended {A = JoinedRows} made new (Err s')
      (one_joined self j (item_in k x) outer f rows (world_of made)) → r ≡ Err s' →
      Ended old new r whole
  join_stops old now made new rows s' whole r h is of g d e answer =
      stops old made new s' (one_joined self j (item_in k x) outer f rows (world_of made))
      (λ more. all_joined self later outer f (Some more))
      (onward self (item_in k x) later outer f j rows (world_of made)) whole r refl
      (item_made old now made rows whole h is of g d) e answer

  -- it is joined to them, and the next follows
  pub item_joined : (old now made new : Content) (rows : List Row) (more : JoinedRows)
      (whole : Ends (List Row)) → i < length xs → x ≡ get_or xs i x →
      source_in k s ≡ itself (item_in k x) →
      Going old now (left (world_of now)) whole →
      Ended now made (Ok rows) (from_rows (source_in k s) self outer f (world_of now)) →
      Ended made new (Ok more) (one_joined self j (item_in k x) outer f rows (world_of made)) →
      Going old new (all_joined self later outer f (Some more) (world_of new)) whole
  item_joined old now made new rows more whole h is of g d e =
      goes_on old made new more (one_joined self j (item_in k x) outer f rows (world_of made))
      (λ more. all_joined self later outer f (Some more))
      (onward self (item_in k x) later outer f j rows (world_of made)) whole refl
      (item_made old now made rows whole h is of g d) e

-- ---- the rest of a SELECT

module _ (self : Called) (k : Known) (q : BoundSelect) (xs : List BoundFromItem)
    (list conjuncts : List BoundExpr)
    (outer : List Row) (f : Frame) (from_is : xs ≡ (out-BoundSelect q).from)
    (list_is : list ≡ (out-BoundSelect q).items)
    (conjuncts_are : conjuncts ≡ (out-BoundSelect q).conjuncts) where
  abbrev whole : Eval (List Row)
  whole = answer (select_in k q) self outer f

  abbrev first : Eval (List Row)
  first = from_rows (from_of (map (item_in k) xs)) self outer f

  abbrev next : Option BoundGrouping → List Row → Eval (List Row)
  next g = one_by_one_or_grouped self (option_map (grouping_in k) g) (exprs_in k conjuncts)
      (exprs_in k list) outer f

  whole_is : (g : Option BoundGrouping) (w : World) → g ≡ (out-BoundSelect q).grouping →
      whole w ≡ after (first w) (next g)
  whole_is g w is =
      ap (λ (t : Query). answer t self outer f w)
      (select_in-parts k q ∙ sym (λ i. selected (option_map (grouping_in k) (is i))
      (exprs_in k (list_is i)) (from_of (map (item_in k) (from_is i)))
      (exprs_in k (conjuncts_are i))))
      ∙ selected_is self (option_map (grouping_in k) g) (exprs_in k list)
      (from_of (map (item_in k) xs))
      (exprs_in k conjuncts) outer f w

  -- FROM is complete, and its rows go on
  select_ends : (g : Option BoundGrouping) (old now new : Content) (rows all : List Row)
      (r : Result (List Row) Stop) → g ≡ (out-BoundSelect q).grouping → all ≡ rows →
      Ended old now (Ok rows) (first (world_of old)) →
      Ended now new r (next g all (world_of now)) → Ended old new r (whole (world_of old))
  select_ends g old now new rows all r is rows_are d e =
      ends_as old now new (next g rows (world_of now)) (whole (world_of old))
      (next g all (world_of now)) r
      (goes_on old old now rows (first (world_of old)) (next g) (whole (world_of old))
      (whole (world_of old)) (whole_is g (world_of old) is)
      (going old (whole (world_of old)) (whole (world_of old)) refl) d)
      (ap (λ (ys : List Row). next g ys (world_of now)) (sym rows_are)) e

  pub rows_end : (old now new : Content) (rows all : List Row) (r : Result (List Row) Stop) →
      None ≡ (out-BoundSelect q).grouping → all ≡ rows →
      Ended old now (Ok rows) (first (world_of old)) →
      Ended now new r (records_by self (exprs_in k list) (exprs_in k conjuncts) outer f all
      (world_of now)) → Ended old new r (whole (world_of old))
  rows_end old now new rows all r is rows_are d e =
      select_ends None old now new rows all r is rows_are d e

  pub grouping_ends : (g : BoundGrouping) (old now new : Content) (rows all : List Row)
      (r : Result (List Row) Stop) → Some g ≡ (out-BoundSelect q).grouping → all ≡ rows →
      Ended old now (Ok rows) (first (world_of old)) →
      Ended now new r (grouped_by self (grouping_in k g) (exprs_in k conjuncts) (exprs_in k list)
      outer f
      all (world_of now)) → Ended old new r (whole (world_of old))
  grouping_ends g old now new rows all r is rows_are d e =
      select_ends (Some g) old now new rows all r is rows_are d e

  -- FROM can't be made
  pub from_stops : (old new : Content) (s : Stop) (r : Result (List Row) Stop) →
      Ended {A = List Row} old new (Err s) (first (world_of old)) → r ≡ Err s →
      Ended old new r (whole (world_of old))
  from_stops old new s r d answer =
      stops old old new s (first (world_of old)) (next (out-BoundSelect q).grouping)
      (whole (world_of old)) (whole (world_of old)) r
      (whole_is (out-BoundSelect q).grouping (world_of old) refl)
      (going old (whole (world_of old)) (whole (world_of old)) refl) d answer
