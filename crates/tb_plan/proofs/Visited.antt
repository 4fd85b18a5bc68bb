-- The depth-first visit over paths: what it finishes, and that its ways never run out of room.
use Rattle.std.proofs.Common.{◌≡◌, ℕ, zero, suc, ◌+◌, ◌≤◌, true, false, cond, List, [], ◌∷◌, ◌++◌, length, refl, sym, ap, subst, inl, inr, arith, ◌∙◌, length-append, append_assoc, append-nil}
use Rattle.std.specs.Prelude.{◌⊎◌, fold, Option, Some, None}
use Rattle.std.proofs.lemmas.List.{length_push}
use Rattle.tb_plan.specs.Orders.{Paths, is_among, Visit, way_from, first_of, closing, finishing, met, visited_from}
use Rattle.tb_plan.proofs.Members.{In, in_left, in_right, in_append}
use Rattle.tb_plan.proofs.Among.{among_in, in_among}

-- ---- lists in which nothing stands twice

abbrev pub Distinct : Paths → Type 0
Distinct [] = Unit {0}
Distinct (p ∷ paths) = (¬ In paths p) × Distinct paths

distinct_push : (paths : Paths) (c : List ℕ) → Distinct paths → ¬ In paths c → Distinct (paths ++ c ∷ [])
distinct_push [] c d out = ((λ h. h), tt)
distinct_push (p ∷ paths) c d out = (
  (λ h. elim (in_append paths (c ∷ []) p h) [ inl a ↦ d.0 a | inr b ↦ elim b [ inl e ↦ out (inl (sym e)) | inr n ↦ absurd n ] ]),
  distinct_push paths c d.1 (λ h. out (inr h)),
)

record Split (files : Paths) (p : List ℕ) : Type 0 where
  front : Paths
  back : Paths
  whole : files ≡ front ++ p ∷ back

split_at : (files : Paths) (p : List ℕ) → In files p → Split files p
split_at [] p h = absurd h
split_at (f ∷ files) p h = elim h [
  | inl e ↦ record { front = []; back = files; whole = ap (λ (x : List ℕ). x ∷ files) e }
  | inr t ↦ let s = split_at files p t in record { front = f ∷ s.front; back = s.back; whole = ap (λ (l : Paths). f ∷ l) s.whole }
]

in_others : (front back : Paths) (p q : List ℕ) → In (front ++ p ∷ back) q → ¬ (p ≡ q) → In (front ++ back) q
in_others front back p q h apart = elim (in_append front (p ∷ back) q h) [
  | inl a ↦ in_left front back q a
  | inr b ↦ elim b [ inl e ↦ absurd (apart e) | inr t ↦ in_right front back q t ]
]

-- no more different paths than files
fewer : (paths files : Paths) → Distinct paths → ((p : List ℕ) → In paths p → In files p) → length paths ≤ length files
fewer [] files d f = omega arith
fewer (p ∷ paths) files d f =
    let s = split_at files p (f p (inl refl)) in
    let rest = fewer paths (s.front ++ s.back) d.1 (λ q h. in_others s.front s.back p q (subst (λ (l : Paths). In l q) s.whole (f q (inr h))) (λ e. d.0 (subst (In paths) (sym e) h))) in
    omega (arith, rest, length-append s.front s.back, ap length s.whole, length-append s.front (p ∷ s.back))

-- ---- room on a way

pub record HasRoom (files : Paths) (room : ℕ) (way todo : Paths) : Type 0 where
  pub size : length way + room ≡ suc (length files)
  pub once : Distinct way
  pub known : (c : List ℕ) → In todo c → (p : List ℕ) → In way p → In files p

pub no_room : (files way todo : Paths) (c : List ℕ) → HasRoom files zero way todo → In todo c → ⊥
no_room files way todo c h in' = absurd (omega (arith, h.size, fewer way files h.once (h.known c in')))

pub room_rest : (files : Paths) (room : ℕ) (way rest : Paths) (c : List ℕ) → HasRoom files room way (c ∷ rest) → HasRoom files room way rest
room_rest files room way rest c h = record { size = h.size; once = h.once; known = λ d k. h.known d (inr k) }

pub room_deeper : (files : Paths) (room : ℕ) (way rest refs : Paths) (c : List ℕ) → HasRoom files (suc room) way (c ∷ rest) → ¬ In way c → ((r : List ℕ) → In refs r → In files c)
    → HasRoom files room (way ++ c ∷ []) refs
room_deeper files room way rest refs c h out file = record {
  size = omega (arith, h.size, length_push way c);
  once = distinct_push way c h.once out;
  known = λ r k p in'. elim (in_append way (c ∷ []) p in') [
    | inl a ↦ h.known c (inl refl) p a
    | inr b ↦ elim b [ inl e ↦ subst (In files) e (file r k) | inr n ↦ absurd n ]
  ];
}

-- ---- what a visit does

abbrev pub Closed : (List ℕ → Paths) → Paths → Paths → Type 0
Closed refs way done = (c r : List ℕ) → In done c → In (refs c) r → In done r ⊎ In way r

-- none of these is on the way
abbrev pub OffWay : Paths → Paths → Type 0
OffWay way done = (c : List ℕ) → In way c → In done c → ⊥

-- after those before, each stands behind what it references
abbrev pub Behind : (List ℕ → Paths) → Paths → Paths → Type 0
Behind refs before [] = Unit {0}
Behind refs before (c ∷ rest) = ((r : List ℕ) → In (refs c) r → In before r) × Behind refs (before ++ c ∷ []) rest

behind_push : (refs : List ℕ → Paths) (before done : Paths) (c : List ℕ) → Behind refs before done → ((r : List ℕ) → In (refs c) r → In (before ++ done) r) → Behind refs before (done ++ c ∷ [])
behind_push refs before [] c b f = ((λ r k. subst (λ (l : Paths). In l r) (append-nil before) (f r k)), tt)
behind_push refs before (d ∷ done) c b f = (b.0, behind_push refs (before ++ d ∷ []) done c b.1 (λ r k. subst (λ (l : Paths). In l r) (sym (append_assoc before (d ∷ []) done)) (f r k)))

none_earlier : (a b : Option Paths) → ((x : Paths) → a ≡ Some x → b ≡ Some x) → b ≡ None → a ≡ None
none_earlier None b f e = refl
none_earlier (Some x) b f e = let g : None ≡ Some x = sym e ∙ f x refl in absurd (cc)

some_first : (o : Option Paths) (cycle : Paths) → first_of o cycle ≡ None → ⊥
some_first None cycle e = cc
some_first (Some x) cycle e = cc

-- from one state to another, as these are met; P passes from a config to what it references
pub record Went (refs : List ℕ → Paths) (P : List ℕ → Type 0) (way : Paths) (v after : Visit) (todo : Paths) : Type 0 where
  pub kept : (c : List ℕ) → In v.finished c → In after.finished c
  pub all : (c : List ℕ) → In todo c → In after.finished c ⊎ In way c
  pub closed : Closed refs way v.finished → Closed refs way after.finished
  pub first : (x : Paths) → v.cycle ≡ Some x → after.cycle ≡ Some x
  pub clear : after.cycle ≡ None → (c : List ℕ) → In todo c → In after.finished c
  pub behind : after.cycle ≡ None → Behind refs [] v.finished → Behind refs [] after.finished
  pub off : OffWay way v.finished → OffWay way after.finished
  pub once : OffWay way v.finished → Distinct v.finished → Distinct after.finished
  pub only : ((c : List ℕ) → In todo c → P c) → ((c : List ℕ) → In v.finished c → P c) → (c : List ℕ) → In after.finished c → P c

module _ (files : Paths) (refs : List ℕ → Paths) (P : List ℕ → Type 0) (file : (c r : List ℕ) → In (refs c) r → In files c) (leads : (c r : List ℕ) → P c → In (refs c) r → P r) where
  went_none : (way : Paths) (v : Visit) → Went refs P way v v []
  went_none way v = record { kept = λ c h. h; all = λ c h. absurd h; closed = λ h. h; first = λ x e. e; clear = λ n c h. absurd h; behind = λ n k. k; off = λ k. k; once = λ o k. k; only = λ t f c h. f c h }

  went_then : (way : Paths) (v w after : Visit) (c : List ℕ) (rest : Paths) → Went refs P way v w (c ∷ []) → Went refs P way w after rest → Went refs P way v after (c ∷ rest)
  went_then way v w after c rest g h = record {
    kept = λ d k. h.kept d (g.kept d k);
    all = λ d k. elim k [
      | inl e ↦ elim (g.all d (inl e)) [ inl a ↦ inl (h.kept d a) | inr b ↦ inr b ]
      | inr t ↦ h.all d t
    ];
    closed = λ k. h.closed (g.closed k);
    first = λ x e. h.first x (g.first x e);
    clear = λ n d k. elim k [
      | inl e ↦ h.kept d (g.clear (none_earlier w.cycle after.cycle h.first n) d (inl e))
      | inr t ↦ h.clear n d t
    ];
    behind = λ n k. h.behind n (g.behind (none_earlier w.cycle after.cycle h.first n) k);
    off = λ o. h.off (g.off o);
    once = λ o k. h.once (g.off o) (g.once o k);
    only = λ t f. h.only (λ d k. t d (inr k)) (g.only (λ d k. elim k [ inl e ↦ t d (inl e) | inr n ↦ absurd n ]) f);
  }

  wider : (way done : Paths) (c : List ℕ) → Closed refs way done → Closed refs (way ++ c ∷ []) done
  wider way done c k d r h l = elim (k d r h l) [ inl a ↦ inl a | inr b ↦ inr (in_left way (c ∷ []) r b) ]

  -- what is finished behind a config or leads to it is finished once it is finished itself
  settled : (way done : Paths) (c r : List ℕ) → In done r ⊎ In (way ++ c ∷ []) r → In (done ++ c ∷ []) r ⊎ In way r
  settled way done c r h = elim h [
    | inl a ↦ inl (in_left done (c ∷ []) r a)
    | inr b ↦ elim (in_append way (c ∷ []) r b) [ inl w ↦ inr w | inr n ↦ inl (in_right done (c ∷ []) r n) ]
  ]

  off_further : (way done : Paths) (c : List ℕ) → ¬ In done c → OffWay way done → OffWay (way ++ c ∷ []) done
  off_further way done c new o d h k = elim (in_append way (c ∷ []) d h) [
    | inl a ↦ o d a k
    | inr b ↦ elim b [ inl e ↦ absurd (new (subst (In done) (sym e) k)) | inr n ↦ absurd n ]
  ]

  went_finished : (way : Paths) (v w : Visit) (c : List ℕ) → ¬ In v.finished c → ¬ In way c → Went refs P (way ++ c ∷ []) v w (refs c) → Went refs P way v (finishing c w) (c ∷ [])
  went_finished way v w c new out g = record {
    kept = λ d k. in_left w.finished (c ∷ []) d (g.kept d k);
    all = λ d k. elim k [ inl e ↦ inl (in_right w.finished (c ∷ []) d (inl e)) | inr n ↦ absurd n ];
    closed = λ k d r in' l. elim (in_append w.finished (c ∷ []) d in') [
      | inl a ↦ settled way w.finished c r (g.closed (wider way v.finished c k) d r a l)
      | inr b ↦ elim b [ inl e ↦ settled way w.finished c r (g.all r (subst (λ x. In (refs x) r) (sym e) l)) | inr n ↦ absurd n ]
    ];
    first = g.first;
    clear = λ n d k. elim k [ inl e ↦ in_right w.finished (c ∷ []) d (inl e) | inr n ↦ absurd n ];
    behind = λ n k. behind_push refs [] w.finished c (g.behind n k) (g.clear n);
    off = λ o d h k. elim (in_append w.finished (c ∷ []) d k) [
      | inl a ↦ g.off (off_further way v.finished c new o) d (in_left way (c ∷ []) d h) a
      | inr b ↦ elim b [ inl e ↦ absurd (out (subst (In way) (sym e) h)) | inr n ↦ absurd n ]
    ];
    once = λ o k. distinct_push w.finished c (g.once (off_further way v.finished c new o) k) (λ h. g.off (off_further way v.finished c new o) c (in_right way (c ∷ []) c (inl refl)) h);
    only = λ t f d in'. elim (in_append w.finished (c ∷ []) d in') [
      | inl a ↦ g.only (λ r k. leads c r (t c (inl refl)) k) f d a
      | inr b ↦ t d b
    ];
  }

  went_one : (entered : Paths → Visit → List ℕ → Visit) (way : Paths) (v : Visit) (c : List ℕ) → (¬ In way c → Went refs P (way ++ c ∷ []) v (entered (way ++ c ∷ []) v c) (refs c))
      → Went refs P way v (met entered way v c) (c ∷ [])
  went_one entered way v c deeper =
      elim (is_among v.finished c) as (λ b. is_among v.finished c ≡ b
      → Went refs P way v (cond b v (cond (is_among way c) (closing (way_from c way) v) (finishing c (entered (way ++ c ∷ []) v c)))) (c ∷ [])) [
        | true ↦ λ e. record {
          kept = λ d k. k;
          all = λ d k. elim k [ inl s ↦ inl (subst (In v.finished) s (among_in v.finished c e)) | inr n ↦ absurd n ];
          closed = λ k. k;
          first = λ x k. k;
          clear = λ n d k. elim k [ inl s ↦ subst (In v.finished) s (among_in v.finished c e) | inr z ↦ absurd z ];
          behind = λ n k. k;
          off = λ k. k;
          once = λ o k. k;
          only = λ t f. f;
        }
        | false ↦ λ unmet. elim (is_among way c) as (λ b. is_among way c ≡ b → Went refs P way v (cond b (closing (way_from c way) v) (finishing c (entered (way ++ c ∷ []) v c))) (c ∷ [])) [
          | true ↦ λ e. record {
            kept = λ d k. k;
            all = λ d k. elim k [ inl s ↦ inr (subst (In way) s (among_in way c e)) | inr n ↦ absurd n ];
            closed = λ k. k;
            first = λ x k. ap (λ (o : Option Paths). first_of o (way_from c way)) k;
            clear = λ n d k. absurd (some_first v.cycle (way_from c way) n);
            behind = λ n k. k;
            off = λ k. k;
            once = λ o k. k;
            only = λ t f. f;
          }
          | false ↦ λ e. went_finished way v (entered (way ++ c ∷ []) v c) c (λ h. absurd (cc (in_among v.finished c h, unmet))) (λ h. absurd (cc (in_among way c h, e))) (deeper (λ h. absurd (cc (in_among way c h, e))))
        ] refl
      ] refl

  went_fold : (room : ℕ) → ((way : Paths) (v : Visit) (todo : Paths) → HasRoom files room way todo → Went refs P way v (visited_from room refs way v todo) todo)
      → (way : Paths) (v : Visit) (todo : Paths) → HasRoom files (suc room) way todo
      → Went refs P way v (fold (met (λ longer so_far config. visited_from room refs longer so_far (refs config)) way) v todo) todo
  went_fold room deeper way v [] h = went_none way v
  went_fold room deeper way v (c ∷ rest) h =
      let entered : Paths → Visit → List ℕ → Visit = λ longer so_far config. visited_from room refs longer so_far (refs config) in
      went_then way v (met entered way v c) _ c rest
      (went_one entered way v c (λ out. deeper (way ++ c ∷ []) v (refs c) (room_deeper files room way rest (refs c) c h out (λ r k. file c r k))))
      (went_fold room deeper way (met entered way v c) rest (room_rest files (suc room) way rest c h))

  pub went : (room : ℕ) (way : Paths) (v : Visit) (todo : Paths) → HasRoom files room way todo → Went refs P way v (visited_from room refs way v todo) todo
  unfolding visited_from
  went zero way v [] h = went_none way v
  went zero way v (c ∷ rest) h = absurd (no_room files way (c ∷ rest) c h (inl refl))
  went (suc room) way v todo h = went_fold room (went room) way v todo h
