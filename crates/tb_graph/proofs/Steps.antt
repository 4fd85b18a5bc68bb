-- The steps of a visit.
use Rattle.std.proofs.Common.{◌≡◌, ◌≢◌, ℕ, zero, suc, ◌+◌, ◌<◌, ◌≤◌, Bool, true, false, eqb, List, [], ◌∷◌, ◌++◌, length, drop, get_or, set, reverse, refl, sym, ap, subst, ◌∙◌, arith, inl, inr, add-one}
use Rattle.std.specs.Prelude.{Contains, All, slice_index_or, ◌⊎◌, not}
use Rattle.std.specs.List.{prefix_len}
use Rattle.std.proofs.lemmas.List.Elements.{Contains-append_left, Contains-append_right, Contains-append_cases, All-push}
use Rattle.std.proofs.lemmas.List.{reverse-append, reverse-reverse, map-append, get_or-set_other, get_or-set_same, get_or_default, length-set, get_or_push, get_or_append_left, length_push, at_drop_all}
use Rattle.std.proofs.Math.Seq.{drop-cons}
use Rattle.std.proofs.lemmas.Bool.{eqb-true, eq-eqb}
use Rattle.std.proofs.lemmas.List.Sums.{sum_by_push}
use Rattle.tb_graph.specs.Graphs.{refs_of, AreNodes}
use Rattle.tb_graph.specs.Visits.{Outcome, Ordered, Cyclic, Visits, OfCycle, path_from, ended, passed, met, entered, failed}
use Rattle.tb_graph.specs.declared.orders.OrderFault.{OrderFault}
use Rattle.tb_graph.specs.declared.orders.OrderFault.TheVariants as fault
use Rattle.tb_graph.specs.Stacks.{path_of, todo_of, Resumes, bottom, up, stopped, nodes_of, Goes, GoesBy, Marks, IsSound, unseen_work, frame_work, work}
use Rattle.tb_graph.specs.declared.visits.Frame.{Frame}
use Rattle.tb_graph.specs.declared.visits.Mark.{Mark}
use Rattle.tb_graph.specs.declared.visits.Mark.TheVariants.{Unseen, Visiting, Finished}
use Rattle.tb_graph.proofs.Sorted.{in_one, in_head, in_none}

-- ---- how the visit ends, by what is done first; frames with the innermost first

pass : {refs : List (List ℕ)} {rest todo done : List ℕ} {stack : List Frame} {o : Outcome} (n : ℕ) → Contains done n → Resumes refs rest todo stack done o → Resumes refs rest (n ∷ todo) stack done o
pass n c (bottom t d o v) = bottom (n ∷ t) d o (passed [] d n t o c v)
pass n c (up t f below d b o v r) = up (n ∷ t) f below d b o (passed _ d n t _ c v) r
pass n c (stopped t f below d k v) = stopped (n ∷ t) f below d k (passed _ d n t _ c v)

close : {refs : List (List ℕ)} {rest : List ℕ} (todo done : List ℕ) (stack : List Frame) (n : ℕ) → ¬ Contains done n → Contains (path_of stack) n
    → Resumes refs rest (n ∷ todo) stack done (Cyclic (path_from n (path_of stack)))
close todo done [] n out on = bottom _ _ _ (met [] done n todo out on)
close todo done (f ∷ below) n out on = stopped _ f below done _ (met _ done n todo out on)

under : {refs : List (List ℕ)} {rest todo between : List ℕ} {stack : List Frame} {o : Outcome} (done : List ℕ) (n : ℕ) → ¬ Contains done n → ¬ Contains (path_of stack) n
    → Visits refs (path_of stack ++ n ∷ []) done (refs_of refs n) (Ordered between) → Resumes refs rest todo stack (between ++ n ∷ []) o → Resumes refs rest (n ∷ todo) stack done o
under {between = between} done n out off v (bottom t d o w) = bottom (n ∷ t) done o (entered [] done n t between o out off v w)
under {between = between} done n out off v (up t f below d b o w r) = up (n ∷ t) f below done b o (entered _ done n t between _ out off v w) r
under {between = between} done n out off v (stopped t f below d k w) = stopped (n ∷ t) f below done k (entered _ done n t between _ out off v w)

fail : {refs : List (List ℕ)} {rest : List ℕ} (todo done cycle : List ℕ) (stack : List Frame) (n : ℕ) → ¬ Contains done n → ¬ Contains (path_of stack) n
    → Visits refs (path_of stack ++ n ∷ []) done (refs_of refs n) (Cyclic cycle) → Resumes refs rest (n ∷ todo) stack done (Cyclic cycle)
fail todo done cycle [] n out off v = bottom _ _ _ (failed [] done n todo cycle out off v)
fail todo done cycle (f ∷ below) n out off v = stopped _ f below done cycle (failed _ done n todo cycle out off v)

enter : {refs : List (List ℕ)} {rest done : List ℕ} {o : Outcome} (frame : Frame) (stack : List Frame) → ¬ Contains done frame.node → ¬ Contains (path_of stack) frame.node
    → Resumes refs rest (refs_of refs frame.node) (frame ∷ stack) done o → Resumes refs rest (frame.node ∷ todo_of refs rest stack) stack done o
enter {refs = refs} {rest = rest} f stack out off (up _ _ _ d b o v r) = under d f.node out off v r
enter {refs = refs} {rest = rest} f stack out off (stopped _ _ _ d k v) = fail (todo_of refs rest stack) d k stack f.node out off v

-- only the node of a frame counts, once what is left to meet at it is known
refit : {refs : List (List ℕ)} {rest todo done : List ℕ} {o : Outcome} (f g : Frame) (below : List Frame) → f.node ≡ g.node → Resumes refs rest todo (f ∷ below) done o → Resumes refs rest todo (g ∷ below) done o
refit {refs = refs} {rest = rest} f g below e (up t _ _ d b o v r) =
    up t g below d b o (subst (λ n. Visits refs (path_of below ++ n ∷ []) d t (Ordered b)) e v) (subst (λ n. Resumes refs rest (todo_of refs rest below) below (b ++ n ∷ []) o) e r)
refit {refs = refs} f g below e (stopped t _ _ d k v) = stopped t g below d k (subst (λ n. Visits refs (path_of below ++ n ∷ []) d t (Cyclic k)) e v)

-- ---- the same over the code's lists

rev_push : (frames : List Frame) (f : Frame) → reverse (frames ++ f ∷ []) ≡ f ∷ reverse frames
rev_push frames f = reverse-append frames (f ∷ [])

nodes_push : (frames : List Frame) (f : Frame) → nodes_of (frames ++ f ∷ []) ≡ nodes_of frames ++ f.node ∷ []
nodes_push frames f = map-append (λ (g : Frame). g.node) frames (f ∷ [])

path_of-nodes : (stack : List Frame) → path_of stack ≡ nodes_of (reverse stack)
path_of-nodes [] = refl
path_of-nodes (f ∷ below) =
    ap (λ p. p ++ f.node ∷ []) (path_of-nodes below) ∙ sym (nodes_push (reverse below) f) ∙ ap nodes_of (sym (reverse-append (f ∷ []) below))

path_is : (frames : List Frame) → path_of (reverse frames) ≡ nodes_of frames
path_is frames = path_of-nodes (reverse frames) ∙ ap nodes_of (reverse-reverse frames)

-- a frame on top
Goes-top : {refs : List (List ℕ)} {rest done : List ℕ} {o : Outcome} (frames : List Frame) (f : Frame) → Resumes refs rest (drop f.next (refs_of refs f.node)) (f ∷ reverse frames) done o → Goes refs rest (frames ++ f ∷ []) done o
Goes-top {refs = refs} {rest = rest} {done = done} {o = o} frames f r = subst (λ stack. Resumes refs rest (todo_of refs rest stack) stack done o) (sym (rev_push frames f)) r

top-Goes : {refs : List (List ℕ)} {rest done : List ℕ} {o : Outcome} (frames : List Frame) (f : Frame) → Goes refs rest (frames ++ f ∷ []) done o → Resumes refs rest (drop f.next (refs_of refs f.node)) (f ∷ reverse frames) done o
top-Goes {refs = refs} {rest = rest} {done = done} {o = o} frames f r = subst (λ stack. Resumes refs rest (todo_of refs rest stack) stack done o) (rev_push frames f) r

top-GoesBy : {refs : List (List ℕ)} {rest done : List ℕ} {o : Outcome} (n : ℕ) (frames : List Frame) (f : Frame) → GoesBy refs rest n (frames ++ f ∷ []) done o → Resumes refs rest (n ∷ drop f.next (refs_of refs f.node)) (f ∷ reverse frames) done o
top-GoesBy {refs = refs} {rest = rest} {done = done} {o = o} n frames f r = subst (λ stack. Resumes refs rest (n ∷ todo_of refs rest stack) stack done o) (rev_push frames f) r

pub goes_past : (refs : List (List ℕ)) (rest done : List ℕ) (o : Outcome) (n : ℕ) (frames : List Frame) → Contains done n → Goes refs rest frames done o → GoesBy refs rest n frames done o
goes_past refs rest done o n frames c g = pass n c g

pub goes_round : (refs : List (List ℕ)) (rest done : List ℕ) (n : ℕ) (frames : List Frame) → ¬ Contains done n → Contains (nodes_of frames) n → GoesBy refs rest n frames done (Cyclic (path_from n (nodes_of frames)))
goes_round refs rest done n frames out on =
    subst (λ path. GoesBy refs rest n frames done (Cyclic (path_from n path))) (path_is frames)
    (close (todo_of refs rest (reverse frames)) done (reverse frames) n out (subst (λ path. Contains path n) (sym (path_is frames)) on))

pub goes_in : (refs : List (List ℕ)) (rest done : List ℕ) (o : Outcome) (frames : List Frame) (f : Frame) → f.next ≡ 0 → ¬ Contains done f.node → ¬ Contains (nodes_of frames) f.node
    → Goes refs rest (frames ++ f ∷ []) done o → GoesBy refs rest f.node frames done o
goes_in refs rest done o frames f start out off g =
    enter f (reverse frames) out (λ on. off (subst (λ path. Contains path f.node) (path_is frames) on))
    (subst (λ k. Resumes refs rest (drop k (refs_of refs f.node)) (f ∷ reverse frames) done o) start (top-Goes frames f g))

-- a reference is met, and the frame goes on behind it
pub goes_on : (refs : List (List ℕ)) (rest done : List ℕ) (o : Outcome) (frames : List Frame) (f g : Frame) (n : ℕ) → f.node ≡ g.node → drop f.next (refs_of refs f.node) ≡ n ∷ drop g.next (refs_of refs g.node)
    → GoesBy refs rest n (frames ++ g ∷ []) done o → Goes refs rest (frames ++ f ∷ []) done o
goes_on refs rest done o frames f g n same left r =
    Goes-top frames f (subst (λ todo. Resumes refs rest todo (f ∷ reverse frames) done o) (sym left) (refit g f (reverse frames) (sym same) (top-GoesBy n frames g r)))

-- the node of a frame with nothing left is finished
pub goes_out : (refs : List (List ℕ)) (rest done : List ℕ) (o : Outcome) (frames : List Frame) (f : Frame) → drop f.next (refs_of refs f.node) ≡ []
    → Goes refs rest frames (done ++ f.node ∷ []) o → Goes refs rest (frames ++ f ∷ []) done o
goes_out refs rest done o frames f left g =
    Goes-top frames f (subst (λ todo. Resumes refs rest todo (f ∷ reverse frames) done o) (sym left) (up [] f (reverse frames) done done o (ended _ done) g))

-- ---- the marks

-- a node that is visited from now on
marks_in : (m : Mark) (done path : List ℕ) (node n : ℕ) → n ≢ node → Marks m done path n → Marks m done (path ++ node ∷ []) n
marks_in Unseen done path node n ne h = (h.0, λ c. elim (Contains-append_cases path (node ∷ []) n c) [ inl i ↦ h.1 i | inr i ↦ ne (in_one node n i) ])
marks_in Visiting done path node n ne h = (h.0, Contains-append_left path (node ∷ []) n h.1)
marks_in Finished done path node n ne h = h

-- a node that is finished
marks_out : (m : Mark) (done path : List ℕ) (node n : ℕ) → n ≢ node → Marks m done (path ++ node ∷ []) n → Marks m (done ++ node ∷ []) path n
marks_out Unseen done path node n ne h =
    (λ c. elim (Contains-append_cases done (node ∷ []) n c) [ inl i ↦ h.0 i | inr i ↦ ne (in_one node n i) ], λ c. h.1 (Contains-append_left path (node ∷ []) n c))
marks_out Visiting done path node n ne h = (
  λ c. elim (Contains-append_cases done (node ∷ []) n c) [ inl i ↦ h.0 i | inr i ↦ ne (in_one node n i) ],
  elim (Contains-append_cases path (node ∷ []) n h.1) [ inl i ↦ i | inr i ↦ absurd (ne (in_one node n i)) ],
)
marks_out Finished done path node n ne h = Contains-append_left done (node ∷ []) n h

same_or : (a b : ℕ) → (a ≡ b) ⊎ (a ≢ b)
same_or a b = by (eqb a b) refl
  where
    by : (t : Bool) → eqb a b ≡ t → (a ≡ b) ⊎ (a ≢ b)
    by true e = inl (eqb-true a b e)
    by false e = inr (λ s. let t = eq-eqb a b s in cc)

-- the marks with one of them set
marks_set : (marks : List Mark) (done path : List ℕ) (node n : ℕ) (m : Mark) → node < length marks → Marks m done path node → (n ≢ node → Marks (slice_index_or marks n Unseen) done path n)
    → Marks (slice_index_or (set marks node m) n Unseen) done path n
marks_set marks done path node n m lt here others = elim (same_or n node) [
  | inl e ↦ subst (λ k. Marks (get_or (set marks node m) k Unseen) done path k) (sym e) (subst (λ (v : Mark). Marks v done path node) (sym (get_or-set_same marks node m Unseen lt)) here)
  | inr ne ↦ subst (λ (v : Mark). Marks v done path n) (sym (get_or-set_other marks node n m Unseen ne)) (others ne)
]

pub sound_in : (refs : List (List ℕ)) (marks : List Mark) (frames : List Frame) (done : List ℕ) (f : Frame) → f.node < length refs → get_or marks f.node Unseen ≡ Unseen → IsSound refs marks frames done
    → IsSound refs (set marks f.node Visiting) (frames ++ f ∷ []) done
sound_in refs marks frames done f lt is s =
    let old : Marks Unseen done (nodes_of frames) f.node = subst (λ (v : Mark). Marks v done (nodes_of frames) f.node) is (s.right f.node lt) in
    record {
      marked = length-set marks f.node Visiting ∙ s.marked;
      right = λ n in'. subst (λ path. Marks (get_or (set marks f.node Visiting) n Unseen) done path n) (sym (nodes_push frames f))
          (marks_set marks done (nodes_of frames ++ f.node ∷ []) f.node n Visiting (omega (arith, s.marked))
          (old.0, Contains-append_right (nodes_of frames) (f.node ∷ []) f.node (in_head f.node []))
          (λ ne. marks_in (get_or marks n Unseen) done (nodes_of frames) f.node n ne (s.right n in')));
      nodes = All-push (λ (g : Frame). g.node < length refs) frames f s.nodes lt;
    }

pub top_node : (refs : List (List ℕ)) (marks : List Mark) (frames : List Frame) (done : List ℕ) (f : Frame) → IsSound refs marks (frames ++ f ∷ []) done → f.node < length refs
top_node refs marks frames done f s = subst (λ (g : Frame). g.node < length refs) (get_or_push frames f f (length frames) refl) (s.nodes (length frames) f (omega (arith, length_push frames f)))

pub sound_out : (refs : List (List ℕ)) (marks : List Mark) (frames : List Frame) (done : List ℕ) (f : Frame) → IsSound refs marks (frames ++ f ∷ []) done
    → IsSound refs (set marks f.node Finished) frames (done ++ f.node ∷ [])
sound_out refs marks frames done f s = record {
  marked = length-set marks f.node Finished ∙ s.marked;
  right = λ n in'. marks_set marks (done ++ f.node ∷ []) (nodes_of frames) f.node n Finished (omega (arith, s.marked, top_node refs marks frames done f s))
      (Contains-append_right done (f.node ∷ []) f.node (in_head f.node []))
      (λ ne. marks_out (get_or marks n Unseen) done (nodes_of frames) f.node n ne (subst (λ path. Marks (get_or marks n Unseen) done path n) (nodes_push frames f) (s.right n in')));
  nodes = λ k d lt. subst (λ (g : Frame). g.node < length refs) (get_or_append_left frames (f ∷ []) d k lt) (s.nodes k d (omega (arith, length_push frames f)));
}

pub sound_on : (refs : List (List ℕ)) (marks : List Mark) (frames : List Frame) (done : List ℕ) (f g : Frame) → f.node ≡ g.node → IsSound refs marks (frames ++ f ∷ []) done → IsSound refs marks (frames ++ g ∷ []) done
sound_on refs marks frames done f g e s = record {
  marked = s.marked;
  right = λ n in'. subst (λ path. Marks (get_or marks n Unseen) done path n) (nodes_push frames f ∙ ap (λ m. nodes_of frames ++ m ∷ []) e ∙ sym (nodes_push frames g)) (s.right n in');
  nodes = All-push (λ (h : Frame). h.node < length refs) frames g
      (λ k d lt. subst (λ (h : Frame). h.node < length refs) (get_or_append_left frames (f ∷ []) d k lt) (s.nodes k d (omega (arith, length_push frames f))))
      (subst (λ m. m < length refs) e (top_node refs marks frames done f s));
}

pub sound_start : (refs : List (List ℕ)) (marks : List Mark) → length marks ≡ length refs → ((n : ℕ) → n < length refs → get_or marks n Unseen ≡ Unseen) → IsSound refs marks [] []
sound_start refs marks e all = record {
  marked = e;
  right = λ n lt. subst (λ (v : Mark). Marks v [] [] n) (sym (all n lt)) (in_none n, in_none n);
  nodes = λ k d lt. absurd (omega (arith, lt));
}

-- what a mark says, where it is known
pub mark_of : (refs : List (List ℕ)) (marks : List Mark) (frames : List Frame) (done : List ℕ) (n : ℕ) (m : Mark) → IsSound refs marks frames done → n < length refs → m ≡ get_or marks n m → Marks m done (nodes_of frames) n
mark_of refs marks frames done n m s lt e = subst (λ (v : Mark). Marks v done (nodes_of frames) n) (get_or_default marks n Unseen m (omega (arith, s.marked)) ∙ sym e) (s.right n lt)

-- ---- the work that is left

unseen_in : (refs : List (List ℕ)) (marks : List Mark) (n : ℕ) → n < length refs → length marks ≡ length refs → get_or marks n Unseen ≡ Unseen
    → unseen_work refs marks ≡ length (refs_of refs n) + 1 + unseen_work refs (set marks n Visiting)
unseen_in [] marks n lt e is = absurd (omega arith)
unseen_in (of ∷ refs) [] n lt e is = absurd (omega arith)
unseen_in (of ∷ refs) (Unseen ∷ marks) zero lt e is = refl
unseen_in (of ∷ refs) (Visiting ∷ marks) zero lt e is = cc
unseen_in (of ∷ refs) (Finished ∷ marks) zero lt e is = cc
unseen_in (of ∷ refs) (Unseen ∷ marks) (suc n) lt e is = omega (arith, unseen_in refs marks n (omega arith) (omega arith) is)
unseen_in (of ∷ refs) (Visiting ∷ marks) (suc n) lt e is = unseen_in refs marks n (omega arith) (omega arith) is
unseen_in (of ∷ refs) (Finished ∷ marks) (suc n) lt e is = unseen_in refs marks n (omega arith) (omega arith) is

unseen_out : (refs : List (List ℕ)) (marks : List Mark) (n : ℕ) → unseen_work refs (set marks n Finished) ≤ unseen_work refs marks
unseen_out [] marks n = omega arith
unseen_out (of ∷ refs) [] n = omega arith
unseen_out (of ∷ refs) (Unseen ∷ marks) zero = omega arith
unseen_out (of ∷ refs) (Visiting ∷ marks) zero = omega arith
unseen_out (of ∷ refs) (Finished ∷ marks) zero = omega arith
unseen_out (of ∷ refs) (Unseen ∷ marks) (suc n) = omega (arith, unseen_out refs marks n)
unseen_out (of ∷ refs) (Visiting ∷ marks) (suc n) = unseen_out refs marks n
unseen_out (of ∷ refs) (Finished ∷ marks) (suc n) = unseen_out refs marks n

pub less_in : (refs : List (List ℕ)) (marks : List Mark) (frames : List Frame) (f : Frame) → f.node < length refs → length marks ≡ length refs → get_or marks f.node Unseen ≡ Unseen
    → work refs (set marks f.node Visiting) (frames ++ f ∷ []) ≤ work refs marks frames
less_in refs marks frames f lt e is = omega (arith, unseen_in refs marks f.node lt e is, sum_by_push (frame_work refs) frames f)

pub less_on : (refs : List (List ℕ)) (marks : List Mark) (frames : List Frame) (f g : Frame) → f.node ≡ g.node → g.next ≡ f.next + 1 → f.next < length (refs_of refs f.node)
    → work refs marks (frames ++ g ∷ []) < work refs marks (frames ++ f ∷ [])
less_on refs marks frames f g e next lt =
    let size = ap (λ n. length (refs_of refs n)) e in
    omega (arith, sum_by_push (frame_work refs) frames f, sum_by_push (frame_work refs) frames g)

pub less_out : (refs : List (List ℕ)) (marks : List Mark) (frames : List Frame) (f : Frame) → work refs (set marks f.node Finished) frames < work refs marks (frames ++ f ∷ [])
less_out refs marks frames f = omega (arith, unseen_out refs marks f.node, sum_by_push (frame_work refs) frames f)

-- ---- the cycle

drop_more : (at : Frame) (rest : List Frame) (k : ℕ) → drop k rest ≡ drop (1 + k) (at ∷ rest)
drop_more at rest k = let one : 1 + k ≡ suc k = omega arith in rw one refl

-- ---- a frame with something left, and one with nothing

pub left_of : (refs : List (List ℕ)) (of : List ℕ) (f : Frame) (n : ℕ) → f.node < length refs → of ≡ get_or refs f.node of → f.next < length of → n ≡ get_or of f.next n
    → drop f.next (refs_of refs f.node) ≡ n ∷ drop (f.next + 1) (refs_of refs f.node)
left_of refs of f n lt is in' e =
    let same = is ∙ get_or_default refs f.node of [] lt in
    subst (λ xs. drop f.next xs ≡ n ∷ drop (f.next + 1) xs) same (rw (add-one, drop-cons of f.next n in') (ap (λ k. k ∷ drop (suc f.next) of) (sym e)))

pub none_left : (refs : List (List ℕ)) (of : List ℕ) (f : Frame) → f.node < length refs → of ≡ get_or refs f.node of → length of ≤ f.next → drop f.next (refs_of refs f.node) ≡ []
none_left refs of f lt is out =
    let same = is ∙ get_or_default refs f.node of [] lt in
    subst (λ xs. drop f.next xs ≡ []) same (at_drop_all (λ (xs : List ℕ). xs) of f.next out)

pub size_of : (refs : List (List ℕ)) (of : List ℕ) (node : ℕ) → node < length refs → of ≡ get_or refs node of → length of ≡ length (refs_of refs node)
size_of refs of node lt is = ap length (is ∙ get_or_default refs node of [] lt)

pub left_node : (refs : List (List ℕ)) (of : List ℕ) (node next n : ℕ) → node < length refs → of ≡ get_or refs node of → next < length of → n ≡ get_or of next n → All (AreNodes refs) refs → n < length refs
left_node refs of node next n lt is in' e all =
    subst (λ k. k < length refs) (sym e) (subst (AreNodes refs) (sym is) (all node of lt) next n in')

pub of_cycle_weaker : {P Q : List ℕ → Type 0} → ((cycle : List ℕ) → P cycle → Q cycle) → (e : OrderFault) → OfCycle P e → OfCycle Q e
of_cycle_weaker f (fault.Cycle cycle) h = f cycle h
of_cycle_weaker f fault.NoMemory h = tt

abbrev pub cycle_of : ℕ → List Frame → List ℕ
cycle_of node frames = nodes_of (drop (prefix_len (λ (frame : Frame). not (eqb frame.node node)) frames) frames)

frames-by : (node : ℕ) (f : Frame) (rest : List Frame) (b : Bool) → eqb f.node node ≡ b → path_from node (nodes_of rest) ≡ cycle_of node rest → path_from node (nodes_of (f ∷ rest)) ≡ cycle_of node (f ∷ rest)
frames-by node f rest true e h = rw e refl
frames-by node f rest false e h = rw e (h ∙ ap nodes_of (drop_more f rest (prefix_len (λ (frame : Frame). not (eqb frame.node node)) rest)))

pub path_from-frames : (node : ℕ) (frames : List Frame) → path_from node (nodes_of frames) ≡ cycle_of node frames
path_from-frames node [] = refl
path_from-frames node (f ∷ rest) = frames-by node f rest (eqb f.node node) refl (path_from-frames node rest)

-- ---- the roots

at_bottom : {refs : List (List ℕ)} {rest todo done : List ℕ} {o : Outcome} → Resumes refs rest todo [] done o → Visits refs [] done todo o
at_bottom (bottom t d o v) = v

root_first : (roots : List ℕ) (i : ℕ) → i < length roots → drop i roots ≡ get_or roots i 0 ∷ drop (i + 1) roots
root_first roots i lt = rw (add-one) (drop-cons roots i 0 lt)

pub next_root : (refs : List (List ℕ)) (roots : List ℕ) (i : ℕ) (done more : List ℕ) (o : Outcome) → i < length roots
    → ((o : Outcome) → Goes refs (drop (i + 1) roots) [] more o → GoesBy refs (drop (i + 1) roots) (get_or roots i 0) [] done o)
    → Visits refs [] more (drop (i + 1) roots) o → Visits refs [] done (drop i roots) o
next_root refs roots i done more o lt goes v =
    subst (λ todo. Visits refs [] done todo o) (sym (root_first roots i lt)) (at_bottom (goes o (bottom (drop (i + 1) roots) more o v)))

pub last_root : (refs : List (List ℕ)) (roots : List ℕ) (i : ℕ) (done cycle : List ℕ) → i < length roots
    → ((rest : List ℕ) → GoesBy refs rest (get_or roots i 0) [] done (Cyclic cycle)) → Visits refs [] done (drop i roots) (Cyclic cycle)
last_root refs roots i done cycle lt goes =
    subst (λ todo. Visits refs [] done todo (Cyclic cycle)) (sym (root_first roots i lt)) (at_bottom (goes (drop (i + 1) roots)))
