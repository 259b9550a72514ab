-- A repetition by stages spells what the repetitions of its parts spell one after another, and is
-- cut where they are.
use Rattle.std.proofs.Common.{◌≡◌, List, [], ◌∷◌, ◌++◌, refl, ap, sym, ◌∙◌, subst, inl, inr, ◌⊎◌}
use Rattle.sql_lex.specs.declared.token.Token.{Token}
use Rattle.grammar_algebra.specs.declared.stage.Stage.{Stage}
use Rattle.grammar_algebra.specs.declared.stage.Stage.TheVariants.{First, Second, Third}
use Rattle.grammar_algebra.specs.Grammar.{Grammar, many, staged, Inner, Begun, Each, EachFrom}
use Rattle.grammar_algebra.specs.Grammar.{stage_after, Spells, Cut}
use Rattle.grammar_algebra.specs.Stages.{NotBefore, in_turn, OfParts}

module _ {R : Type 0} {Tree : R → Type 0} {A : Type 0} (inner : Inner R Tree) (begun : Begun R)
    (part item : Stage → Grammar R Tree A) (next : Stage → A → Stage)
    (of : OfParts inner begun part item next) where
  abbrev Items : Stage → List A → List Token → List Token → Type 0
  Items s xs ts rest = EachFrom (λ t. Spells inner (item t)) next s xs ts rest

  abbrev Parts : Stage → List A → List Token → List Token → Type 0
  Parts t xs ts rest = Each (Spells inner (part t)) xs ts rest

  -- ---- whole spellings

  to_third : (xs : List A) (ts rest : List Token) → Items Third xs ts rest → Parts Third xs ts rest
  to_third [] ts rest e = e
  to_third (x ∷ xs) ts rest (mid, s, each) = go (to_third xs mid rest) (of.of_part Third x ts mid s)
    where
      go : (Items Third xs mid rest → Parts Third xs mid rest) → (t : Stage) × NotBefore Third t ×
          Spells inner (part t) x ts mid × (next Third x ≡ t) → Parts Third (x ∷ xs) ts rest
      go ih (First, b, p, e) = absurd b
      go ih (Second, b, p, e) = absurd b
      go ih (Third, b, p, e) = (mid, p, ih (subst (λ z. Items z xs mid rest) e each))

  abbrev LastTwo : List A → List Token → List Token → Type 0
  LastTwo xs ts rest = (bs : List A) × (cs : List A) × (mid : List Token) × (xs ≡ bs ++ cs) ×
      Parts Second bs ts mid × Parts Third cs mid rest

  to_second : (xs : List A) (ts rest : List Token) → Items Second xs ts rest → LastTwo xs ts rest
  to_second [] ts rest e = ([], [], ts, refl, refl, e)
  to_second (x ∷ xs) ts rest (mid, s, each) =
      go (to_second xs mid rest) (of.of_part Second x ts mid s)
    where
      go : (Items Second xs mid rest → LastTwo xs mid rest) → (t : Stage) × NotBefore Second t ×
          Spells inner (part t) x ts mid × (next Second x ≡ t) → LastTwo (x ∷ xs) ts rest
      go ih (First, b, p, e) = absurd b
      go ih (Second, b, p, e) = let w = ih (subst (λ z. Items z xs mid rest) e each) in
          (x ∷ w.0, w.1, w.2, ap (λ (z : List A). x ∷ z) w.3, (mid, p, w.4), w.5)
      go ih (Third, b, p, e) = (
        [],
        x ∷ xs,
        ts,
        refl,
        refl,
        (mid, p, to_third xs mid rest (subst (λ z. Items z xs mid rest) e each)),
      )

  abbrev AllThree : List A → List Token → List Token → Type 0
  AllThree xs ts rest = (vs : List A) × (ys : List A) × (mid : List Token) × (xs ≡ vs ++ ys) ×
      Parts First vs ts mid × LastTwo ys mid rest

  to_first : (xs : List A) (ts rest : List Token) → Items First xs ts rest → AllThree xs ts rest
  to_first [] ts rest e = ([], [], ts, refl, refl, ([], [], ts, refl, refl, e))
  to_first (x ∷ xs) ts rest (mid, s, each) = go (to_first xs mid rest) (of.of_part First x ts mid s)
    where
      go : (Items First xs mid rest → AllThree xs mid rest) → (t : Stage) × NotBefore First t ×
          Spells inner (part t) x ts mid × (next First x ≡ t) → AllThree (x ∷ xs) ts rest
      go ih (First, b, p, e) = let w = ih (subst (λ z. Items z xs mid rest) e each) in
          (x ∷ w.0, w.1, w.2, ap (λ (z : List A). x ∷ z) w.3, (mid, p, w.4), w.5)
      go ih (Second, b, p, e) =
          let w = to_second xs mid rest (subst (λ z. Items z xs mid rest) e each) in (
            [],
            x ∷ xs,
            ts,
            refl,
            refl,
            (
              x ∷ w.0,
              w.1,
              w.2,
              ap (λ (z : List A). x ∷ z) w.3,
              (mid, p, w.4),
              w.5,
            ),
          )
      go ih (Third, b, p, e) = (
        [],
        x ∷ xs,
        ts,
        refl,
        refl,
        (
          [],
          x ∷ xs,
          ts,
          refl,
          refl,
          (
            mid,
            p,
            to_third xs mid rest
                (subst (λ z. Items z xs mid rest) e each),
          ),
        ),
      )

  pub turns_of : (xs : List A) (ts rest : List Token) →
      Spells inner (staged item next First) xs ts rest → Spells inner (in_turn part) xs ts rest
  turns_of xs ts rest s =
      let w = to_first xs ts rest s in let v = w.5 in
      ((w.0, (v.0, v.1)), w.3 ∙ ap (λ (z : List A). w.0 ++ z) v.3, (w.2, w.4, (v.2, v.4, v.5)))

  from_third : (s : Stage) → NotBefore s Third → (xs : List A) (ts rest : List Token) →
      Parts Third xs ts rest → Items s xs ts rest
  from_third s b [] ts rest e = e
  from_third s b (x ∷ xs) ts rest (mid, p, each) =
      let w = of.of_item s Third b x ts mid p in
      (mid, w.0, subst (λ z. Items z xs mid rest) (sym w.1) (from_third Third tt xs mid rest each))

  from_second : (s : Stage) → NotBefore s Second → NotBefore s Third →
      (bs cs : List A) (ts mid rest : List Token) → Parts Second bs ts mid →
      Parts Third cs mid rest → Items s (bs ++ cs) ts rest
  from_second s b b' [] cs ts mid rest e c = from_third s b' cs ts rest
      (subst (λ z. Parts Third cs z rest) (sym e) c)
  from_second s b b' (x ∷ bs) cs ts mid rest (n, p, each) c =
      let w = of.of_item s Second b x ts n p in (
        n,
        w.0,
        subst (λ z. Items z (bs ++ cs) n rest) (sym w.1)
            (from_second Second tt tt bs cs n mid rest each c),
      )

  from_first : (vs bs cs : List A) (ts mid mid' rest : List Token) → Parts First vs ts mid →
      Parts Second bs mid mid' → Parts Third cs mid' rest → Items First (vs ++ (bs ++ cs)) ts rest
  from_first [] bs cs ts mid mid' rest e b c =
      from_second First tt tt bs cs ts mid' rest (subst (λ z. Parts Second bs z mid') (sym e) b) c
  from_first (x ∷ vs) bs cs ts mid mid' rest (n, p, each) b c =
      let w = of.of_item First First tt x ts n p in (
        n,
        w.0,
        subst (λ z. Items z (vs ++ (bs ++ cs)) n rest) (sym w.1)
            (from_first vs bs cs n mid mid' rest each b c),
      )

  pub of_turns : (xs : List A) (ts rest : List Token) → Spells inner (in_turn part) xs ts rest →
      Spells inner (staged item next First) xs ts rest
  of_turns xs ts rest ((vs, (bs, cs)), e, (mid, a, (mid', b, c))) =
      subst (λ z. Items First z ts rest) (sym e) (from_first vs bs cs ts mid mid' rest a b c)

  -- ---- spellings cut short

  abbrev Last : Stage → List A → List Token → List Token → Type 0
  Last s xs mid end = (mid ≡ end) ⊎ Cut inner begun (item (stage_after next s xs)) mid end

  cut_third : (xs : List A) (ts mid end : List Token) → Items Third xs ts mid →
      Last Third xs mid end → Cut inner begun (many (part Third)) ts end
  cut_third [] ts mid end e (inl e') = ([], mid, e, inl e')
  cut_third [] ts mid end e (inr c) = go (of.cut_part Third mid end c)
    where
      go : (t : Stage) × NotBefore Third t × Cut inner begun (part t) mid end →
          Cut inner begun (many (part Third)) ts end
      go (First, b, c) = absurd b
      go (Second, b, c) = absurd b
      go (Third, b, c) = ([], mid, e, inr c)
  cut_third (x ∷ xs) ts mid end (n, s, each) last =
      go (cut_third xs n mid end) (of.of_part Third x ts n s)
    where
      go : (Items Third xs n mid → Last Third xs mid end →
          Cut inner begun (many (part Third)) n end) → (t : Stage) × NotBefore Third t ×
          Spells inner (part t) x ts n × (next Third x ≡ t)
          → Cut inner begun (many (part Third)) ts end
      go ih (First, b, p, e) = absurd b
      go ih (Second, b, p, e) = absurd b
      go ih (Third, b, p, e) =
          let w = ih (subst (λ z. Items z xs n mid) e each) (subst (λ z. Last z xs mid end) e last)
          in (x ∷ w.0, w.1, (n, p, w.2), w.3)

  abbrev CutTwo : List Token → List Token → Type 0
  CutTwo ts end = Cut inner begun (many (part Second)) ts end ⊎
      ((bs : List A) × (mid : List Token) × Parts Second bs ts mid ×
      Cut inner begun (many (part Third)) mid end)

  longer_two : (x : A) (ts n end : List Token) → Spells inner (part Second) x ts n → CutTwo n end →
      CutTwo ts end
  longer_two x ts n end p (inl w) = inl (x ∷ w.0, w.1, (n, p, w.2), w.3)
  longer_two x ts n end p (inr w) = inr (x ∷ w.0, w.1, (n, p, w.2), w.3)

  cut_second : (xs : List A) (ts mid end : List Token) → Items Second xs ts mid →
      Last Second xs mid end → CutTwo ts end
  cut_second [] ts mid end e (inl e') = inl ([], mid, e, inl e')
  cut_second [] ts mid end e (inr c) = go (of.cut_part Second mid end c)
    where
      go : (t : Stage) × NotBefore Second t × Cut inner begun (part t) mid end → CutTwo ts end
      go (First, b, c) = absurd b
      go (Second, b, c) = inl ([], mid, e, inr c)
      go (Third, b, c) = inr ([], mid, e, ([], mid, refl, inr c))
  cut_second (x ∷ xs) ts mid end (n, s, each) last =
      go (cut_second xs n mid end) (of.of_part Second x ts n s)
    where
      go : (Items Second xs n mid → Last Second xs mid end → CutTwo n end) → (t : Stage) ×
          NotBefore Second t × Spells inner (part t) x ts n × (next Second x ≡ t) → CutTwo ts end
      go ih (First, b, p, e) = absurd b
      go ih (Second, b, p, e) = longer_two x ts n end p
          (ih (subst (λ z. Items z xs n mid) e each) (subst (λ z. Last z xs mid end) e last))
      go ih (Third, b, p, e) =
          let w = cut_third xs n mid end (subst (λ z. Items z xs n mid) e each)
          (subst (λ z. Last z xs mid end) e last) in
          inr ([], ts, refl, (x ∷ w.0, w.1, (n, p, w.2), w.3))

  abbrev CutThree : List Token → List Token → Type 0
  CutThree ts end = Cut inner begun (many (part First)) ts end ⊎
      ((vs : List A) × (mid : List Token) × Parts First vs ts mid × CutTwo mid end)

  longer_three : (x : A) (ts n end : List Token) → Spells inner (part First) x ts n →
      CutThree n end → CutThree ts end
  longer_three x ts n end p (inl w) = inl (x ∷ w.0, w.1, (n, p, w.2), w.3)
  longer_three x ts n end p (inr w) = inr (x ∷ w.0, w.1, (n, p, w.2), w.3)

  cut_first : (xs : List A) (ts mid end : List Token) → Items First xs ts mid →
      Last First xs mid end → CutThree ts end
  cut_first [] ts mid end e (inl e') = inl ([], mid, e, inl e')
  cut_first [] ts mid end e (inr c) = go (of.cut_part First mid end c)
    where
      go : (t : Stage) × NotBefore First t × Cut inner begun (part t) mid end → CutThree ts end
      go (First, b, c) = inl ([], mid, e, inr c)
      go (Second, b, c) = inr ([], mid, e, inl ([], mid, refl, inr c))
      go (Third, b, c) = inr ([], mid, e, inr ([], mid, refl, ([], mid, refl, inr c)))
  cut_first (x ∷ xs) ts mid end (n, s, each) last =
      go (cut_first xs n mid end) (of.of_part First x ts n s)
    where
      go : (Items First xs n mid → Last First xs mid end → CutThree n end) → (t : Stage) ×
          NotBefore First t × Spells inner (part t) x ts n × (next First x ≡ t) → CutThree ts end
      go ih (First, b, p, e) = longer_three x ts n end p
          (ih (subst (λ z. Items z xs n mid) e each) (subst (λ z. Last z xs mid end) e last))
      go ih (Second, b, p, e) =
          inr (
            [],
            ts,
            refl,
            longer_two x ts n end p
                (cut_second xs n mid end (subst (λ z. Items z xs n mid) e each)
                (subst (λ z. Last z xs mid end) e last)),
          )
      go ih (Third, b, p, e) =
          let w = cut_third xs n mid end (subst (λ z. Items z xs n mid) e each)
          (subst (λ z. Last z xs mid end) e last) in
          inr ([], ts, refl, inr ([], ts, refl, (x ∷ w.0, w.1, (n, p, w.2), w.3)))

  pub turns_of_cut : (ts end : List Token) → Cut inner begun (staged item next First) ts end →
      Cut inner begun (in_turn part) ts end
  turns_of_cut ts end (xs, mid, each, last) = cut_first xs ts mid end each last

  abbrev CutFrom : Stage → List Token → List Token → Type 0
  CutFrom s ts end = (xs : List A) × (mid : List Token) × Items s xs ts mid × Last s xs mid end

  -- an item of the part of stage t, and then a cut from t on
  one_more : (s t : Stage) → NotBefore s t → (x : A) (ts n end : List Token) →
      Spells inner (part t) x ts n → CutFrom t n end → CutFrom s ts end
  one_more s t b x ts n end p (xs, mid, each, last) =
      let w = of.of_item s t b x ts n p in (
        x ∷ xs,
        mid,
        (n, w.0, subst (λ z. Items z xs n mid) (sym w.1) each),
        subst
            (λ z. Last z xs mid end) (sym w.1) last,
      )

  back_third : (s : Stage) → NotBefore s Third → (xs : List A) (ts mid end : List Token) →
      Parts Third xs ts mid → (mid ≡ end) ⊎ Cut inner begun (part Third) mid end → CutFrom s ts end
  back_third s b [] ts mid end e (inl e') = ([], mid, e, inl e')
  back_third s b [] ts mid end e (inr c) = ([], mid, e, inr (of.cut_item s Third b mid end c))
  back_third s b (x ∷ xs) ts mid end (n, p, each) last =
      one_more s Third b x ts n end p (back_third Third tt xs n mid end each last)

  back_second : (s : Stage) → NotBefore s Second → (xs : List A) (ts mid end : List Token) →
      Parts Second xs ts mid → (mid ≡ end) ⊎ Cut inner begun (part Second) mid end →
      CutFrom s ts end
  back_second s b [] ts mid end e (inl e') = ([], mid, e, inl e')
  back_second s b [] ts mid end e (inr c) = ([], mid, e, inr (of.cut_item s Second b mid end c))
  back_second s b (x ∷ xs) ts mid end (n, p, each) last =
      one_more s Second b x ts n end p (back_second Second tt xs n mid end each last)

  back_first : (xs : List A) (ts mid end : List Token) → Parts First xs ts mid → (mid ≡ end) ⊎
      Cut inner begun (part First) mid end → CutFrom First ts end
  back_first [] ts mid end e (inl e') = ([], mid, e, inl e')
  back_first [] ts mid end e (inr c) = ([], mid, e, inr (of.cut_item First First tt mid end c))
  back_first (x ∷ xs) ts mid end (n, p, each) last =
      one_more First First tt x ts n end p (back_first xs n mid end each last)

  -- items of a part, and then a cut from a later stage on
  after_second : (s : Stage) → NotBefore s Second → (bs : List A) (ts mid end : List Token) →
      Parts Second bs ts mid → ((t : Stage) → NotBefore t Second → CutFrom t mid end) →
      CutFrom s ts end
  after_second s b [] ts mid end e c = subst (λ z. CutFrom s z end) (sym e) (c s b)
  after_second s b (x ∷ bs) ts mid end (n, p, each) c =
      one_more s Second b x ts n end p (after_second Second tt bs n mid end each c)

  after_first : (vs : List A) (ts mid end : List Token) → Parts First vs ts mid →
      CutFrom First mid end → CutFrom First ts end
  after_first [] ts mid end e c = subst (λ z. CutFrom First z end) (sym e) c
  after_first (x ∷ vs) ts mid end (n, p, each) c =
      one_more First First tt x ts n end p (after_first vs n mid end each c)

  third_too : (t : Stage) → NotBefore t Second → NotBefore t Third
  third_too First b = tt
  third_too Second b = tt
  third_too Third b = absurd b

  back_two : (ts end : List Token) → CutTwo ts end → CutFrom First ts end
  back_two ts end (inl (xs, mid, each, last)) = back_second First tt xs ts mid end each last
  back_two ts end (inr (bs, mid, each, (xs, n, each', last))) =
      after_second First tt bs ts mid end each
      (λ t b. back_third t (third_too t b) xs mid n end each' last)

  pub of_turns_cut : (ts end : List Token) → Cut inner begun (in_turn part) ts end →
      Cut inner begun (staged item next First) ts end
  of_turns_cut ts end (inl (xs, mid, each, last)) = back_first xs ts mid end each last
  of_turns_cut ts end (inr (vs, mid, each, c)) = after_first vs ts mid end each (back_two mid end c)
