use Rattle.std.proofs.Common.{sym}
use Rattle.tb_tree.specs.Longest.{Never}
use Rattle.tb_parse_file.specs.Classes.{head_of}
use Rattle.tb_parse_file.specs.DeclRules.{MethodRule, FieldRule}
use Rattle.tb_parse_file.proofs.DeclMembers.{rest_of_method, rest_of_field, rest_lacks, rest_unnamed, plain_found, plain_lacks, plain_lacks_head}
use Rattle.tb_parse_file.proofs.PartReadings.{lacking, reading}
use Rattle.tb_parse_file.proofs.decl_members.plain_member_at.Goals as goal

pub returns-in_default : goal.returns-in_default
returns-in_default c = plain_lacks_head c.in_default.ensures

pub returns-then-not-is_member_name : goal.returns-then-not-is_member_name
returns-then-not-is_member_name c = plain_lacks c.in-Some.ensures.1 (rest_unnamed (head_of c.args.reader c.in-Some.head) _ (sym c.if-not-is_member_name.ensures))

pub field_at-requires : goal.field_at-requires
field_at-requires c = c.in-Some.ensures.0

pub returns-in-Some-2 : goal.returns-in-Some-2
returns-in-Some-2 c =
    let r = c.args.reader in
    let h = head_of r c.in-Some.head in
    let f = reading (MethodRule h) Never r c.in-Some.head.next _ c.in-Some-2.method c.in-Some-2.is c.in_ok-method.ensures in
    (f.0, plain_found c.in-Some.ensures.1 (rest_of_method h (sym c.if-not-is_member_name.ensures) f.1))

pub returns-in_default-3 : goal.returns-in_default-3
returns-in_default-3 c =
    let r = c.args.reader in
    let h = head_of r c.in-Some.head in
    let l = lacking (MethodRule h) Never r c.in-Some.head.next _ c.in_default-2.is c.in_ok-method.ensures in
    let k = lacking (FieldRule h) Never r c.in-Some.head.next _ c.in_default-3.is c.in_ok-field.ensures in
    plain_lacks c.in-Some.ensures.1 (rest_lacks h l k)

pub returns : goal.returns
returns c =
    let r = c.args.reader in
    let h = head_of r c.in-Some.head in
    let l = lacking (MethodRule h) Never r c.in-Some.head.next _ c.in_default-2.is c.in_ok-method.ensures in
    let f = reading (FieldRule h) Never r c.in-Some.head.next _ c.in-Some-3.field c.in-Some-3.is c.in_ok-field.ensures in
    (f.0, plain_found c.in-Some.ensures.1 (rest_of_field h (sym c.if-not-is_member_name.ensures) l f.1))
