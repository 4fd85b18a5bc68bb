-- The choice between declarations.
use Rattle.std.proofs.Common.{◌≡◌, ℕ, ◌≤◌, true, List, ◌++◌, refl, sym, ◌∙◌, ap, arith}
use Rattle.tb_tree.specs.declared.exprs.Var.{Var}
use Rattle.tb_tree.specs.declared.exprs.Function.{Function}
use Rattle.tb_tree.specs.declared.items.ClassDeclaration.{ClassDeclaration}
use Rattle.tb_tree.specs.declared.items.Interface.{Interface}
use Rattle.tb_tree.specs.declared.items.Alias.{Alias}
use Rattle.tb_tree.specs.declared.items.Declaration.{Declaration}
use Rattle.tb_tree.specs.declared.items.Declaration.TheVariants as declaration
use Rattle.tb_tree.specs.Sym.{Sym}
use Rattle.tb_tree.specs.Longest.{Found, Lacks, Never}
use Rattle.tb_tree.specs.Items.{IsDeclaration}
use Rattle.tb_tree.specs.Items as g
use Rattle.tb_tree.proofs.Ends.{wider}
use Rattle.tb_parse_body.specs.Rules.{Deep, VarUpto, FunctionUpto, InBody}
use Rattle.tb_parse_body.proofs.Sequences.{IsBack, found_by}
use Rattle.tb_parse_file.specs.Rules.{ClassUpto, InterfaceUpto, AliasUpto, DeclarationUpto}
use Rattle.tb_parse_file.proofs.FirstWords.{first, tag, declaration_first}

abbrev pub var_of : Deep Var → Deep Declaration
var_of r = (declaration.Var r.0, r.1)

abbrev pub function_of : Deep Function → Deep Declaration
function_of r = (declaration.Function r.0, r.1)

abbrev pub class_of : Deep ClassDeclaration → Deep Declaration
class_of r = (declaration.Class r.0, r.1)

abbrev pub interface_of : Deep Interface → Deep Declaration
interface_of r = (declaration.Interface r.0, r.1)

abbrev pub alias_of : Deep Alias → Deep Declaration
alias_of r = (declaration.Alias r.0, r.1)

-- declarations at the front of one list are of one kind
same_tag : {a b xs : List Sym} {of by : Declaration} {d e : ℕ} (us vs : List Sym) (q : IsDeclaration true a of d) (r : IsDeclaration true b by e) → xs ≡ a ++ us → xs ≡ b ++ vs → tag q ≡ tag r
same_tag us vs q r v w = sym (declaration_first us q) ∙ ap first (sym v ∙ w) ∙ declaration_first vs r

module _ (n : ℕ) where
  as_var : {a : List Sym} {of : Declaration} {d : ℕ} (q : IsDeclaration true a of d) → d ≤ n → tag q ≡ 2 → (v : Deep Var) × VarUpto n a v × (var_of v ≡ (of, d))
  as_var (g.var_declaration {of = of} {d = d} q) h t = ((of, d), (q, h), refl)
  as_var (g.function_declaration q) h t = absurd (omega (arith, t))
  as_var (g.class_declaration q) h t = absurd (omega (arith, t))
  as_var (g.interface_declaration q) h t = absurd (omega (arith, t))
  as_var (g.alias_declaration q) h t = absurd (omega (arith, t))

  as_function : {a : List Sym} {of : Declaration} {d : ℕ} (q : IsDeclaration true a of d) → d ≤ n → tag q ≡ 3 → (v : Deep Function) × FunctionUpto n a v × (function_of v ≡ (of, d))
  as_function (g.var_declaration q) h t = absurd (omega (arith, t))
  as_function (g.function_declaration {of = of} {d = d} q) h t = ((of, d), (q, h), refl)
  as_function (g.class_declaration q) h t = absurd (omega (arith, t))
  as_function (g.interface_declaration q) h t = absurd (omega (arith, t))
  as_function (g.alias_declaration q) h t = absurd (omega (arith, t))

  as_class : {a : List Sym} {of : Declaration} {d : ℕ} (q : IsDeclaration true a of d) → d ≤ n → tag q ≡ 4 → (v : Deep ClassDeclaration) × ClassUpto n a v × (class_of v ≡ (of, d))
  as_class (g.var_declaration q) h t = absurd (omega (arith, t))
  as_class (g.function_declaration q) h t = absurd (omega (arith, t))
  as_class (g.class_declaration {of = of} {d = d} q) h t = ((of, d), (q, h), refl)
  as_class (g.interface_declaration q) h t = absurd (omega (arith, t))
  as_class (g.alias_declaration q) h t = absurd (omega (arith, t))

  as_interface : {a : List Sym} {of : Declaration} {d : ℕ} (q : IsDeclaration true a of d) → d ≤ n → tag q ≡ 5 → (v : Deep Interface) × InterfaceUpto n a v × (interface_of v ≡ (of, d))
  as_interface (g.var_declaration q) h t = absurd (omega (arith, t))
  as_interface (g.function_declaration q) h t = absurd (omega (arith, t))
  as_interface (g.class_declaration q) h t = absurd (omega (arith, t))
  as_interface (g.interface_declaration {of = of} {d = d} q) h t = ((of, d), (q, h), refl)
  as_interface (g.alias_declaration q) h t = absurd (omega (arith, t))

  as_alias : {a : List Sym} {of : Declaration} {d : ℕ} (q : IsDeclaration true a of d) → d ≤ n → tag q ≡ 6 → (v : Deep Alias) × AliasUpto n a v × (alias_of v ≡ (of, d))
  as_alias (g.var_declaration q) h t = absurd (omega (arith, t))
  as_alias (g.function_declaration q) h t = absurd (omega (arith, t))
  as_alias (g.class_declaration q) h t = absurd (omega (arith, t))
  as_alias (g.interface_declaration q) h t = absurd (omega (arith, t))
  as_alias (g.alias_declaration {of = of} {d = d} q) h t = ((of, d), (q, h), refl)

  pub declared_var : {xs ys : List Sym} {r : Deep Var} → Found (VarUpto n) Never xs r ys → Found (DeclarationUpto n) InBody xs (var_of r) ys
  declared_var {xs = xs} {ys = ys} f =
      let back : IsBack var_of (VarUpto n) (DeclarationUpto n) xs = λ a u us d w. as_var d.0 d.1 (same_tag us ys d.0 (g.var_declaration f.derives.0) w f.whole) in
      wider (λ s c. absurd c) (found_by var_of (λ a w d. (g.var_declaration d.0, d.1)) back f)

  pub declared_function : {xs ys : List Sym} {r : Deep Function} → Found (FunctionUpto n) InBody xs r ys → Found (DeclarationUpto n) InBody xs (function_of r) ys
  declared_function {xs = xs} {ys = ys} f =
      let back : IsBack function_of (FunctionUpto n) (DeclarationUpto n) xs = λ a u us d w. as_function d.0 d.1 (same_tag us ys d.0 (g.function_declaration f.derives.0) w f.whole) in
      found_by function_of (λ a w d. (g.function_declaration d.0, d.1)) back f

  pub declared_class : {xs ys : List Sym} {r : Deep ClassDeclaration} → Found (ClassUpto n) Never xs r ys → Found (DeclarationUpto n) InBody xs (class_of r) ys
  declared_class {xs = xs} {ys = ys} f =
      let back : IsBack class_of (ClassUpto n) (DeclarationUpto n) xs = λ a u us d w. as_class d.0 d.1 (same_tag us ys d.0 (g.class_declaration f.derives.0) w f.whole) in
      wider (λ s c. absurd c) (found_by class_of (λ a w d. (g.class_declaration d.0, d.1)) back f)

  pub declared_interface : {xs ys : List Sym} {r : Deep Interface} → Found (InterfaceUpto n) Never xs r ys → Found (DeclarationUpto n) InBody xs (interface_of r) ys
  declared_interface {xs = xs} {ys = ys} f =
      let back : IsBack interface_of (InterfaceUpto n) (DeclarationUpto n) xs = λ a u us d w. as_interface d.0 d.1 (same_tag us ys d.0 (g.interface_declaration f.derives.0) w f.whole) in
      wider (λ s c. absurd c) (found_by interface_of (λ a w d. (g.interface_declaration d.0, d.1)) back f)

  pub declared_alias : {xs ys : List Sym} {r : Deep Alias} → Found (AliasUpto n) Never xs r ys → Found (DeclarationUpto n) InBody xs (alias_of r) ys
  declared_alias {xs = xs} {ys = ys} f =
      let back : IsBack alias_of (AliasUpto n) (DeclarationUpto n) xs = λ a u us d w. as_alias d.0 d.1 (same_tag us ys d.0 (g.alias_declaration f.derives.0) w f.whole) in
      wider (λ s c. absurd c) (found_by alias_of (λ a w d. (g.alias_declaration d.0, d.1)) back f)

  pub declaration_lacks : {xs : List Sym} → Lacks (VarUpto n) xs → Lacks (FunctionUpto n) xs → Lacks (ClassUpto n) xs → Lacks (InterfaceUpto n) xs → Lacks (AliasUpto n) xs → Lacks (DeclarationUpto n) xs
  declaration_lacks {xs = xs} f k l i j = record { none = λ a u us d w. go us d.0 d.1 w }
    where
      go : {a : List Sym} {of : Declaration} {d : ℕ} (us : List Sym) → IsDeclaration true a of d → d ≤ n → xs ≡ a ++ us → ⊥
      go {a = a} us (g.var_declaration {of = of} {d = d} q) h w = f.none a (of, d) us (q, h) w
      go {a = a} us (g.function_declaration {of = of} {d = d} q) h w = k.none a (of, d) us (q, h) w
      go {a = a} us (g.class_declaration {of = of} {d = d} q) h w = l.none a (of, d) us (q, h) w
      go {a = a} us (g.interface_declaration {of = of} {d = d} q) h w = i.none a (of, d) us (q, h) w
      go {a = a} us (g.alias_declaration {of = of} {d = d} q) h w = j.none a (of, d) us (q, h) w
