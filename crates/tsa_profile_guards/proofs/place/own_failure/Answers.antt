use Rattle.tsa_tree.specs.expressions.Shapes.{name_shape, shape}
use Rattle.tsa_profile_accesses.specs.NodeAnswers.{view_of}
use Rattle.tsa_profile_guards.proofs.Places.{at_kind, call_told, field_place, index_place, named_place, null_place, number_place}
use Rattle.tsa_profile_guards.proofs.place.own_failure.Goals as goal

pub returns-in-Call : goal.returns-in-Call
returns-in-Call c = call_told (view_of c.args.body) c.args.expr.now c.in-Call.callee c.in-Call.args _ c.in-Call.is c.told.ensures

pub returns-in-Number : goal.returns-in-Number
returns-in-Number c =
    at_kind (view_of c.args.body) c.args.expr.now _ c.in-Number.is (number_place (view_of c.args.body) c.in-Number.value c.in-Number.unsigned c.args.expr.now.span)

pub returns-in-Null : goal.returns-in-Null
returns-in-Null c = at_kind (view_of c.args.body) c.args.expr.now _ c.in-Null.is (null_place (view_of c.args.body) c.args.expr.now.span)

pub returns-in-Named : goal.returns-in-Named
returns-in-Named c =
    at_kind (view_of c.args.body) c.args.expr.now _ c.in-Named.is (named_place (view_of c.args.body) (name_shape c.in-Named.field-0) c.args.expr.now.span)

pub returns-in-Field : goal.returns-in-Field
returns-in-Field c =
    at_kind (view_of c.args.body) c.args.expr.now _ c.in-Field.is
    (field_place (view_of c.args.body) (shape c.in-Field.base.now) (name_shape c.in-Field.name) c.in-Field.arrow c.args.expr.now.span)

pub returns-in-Index : goal.returns-in-Index
returns-in-Index c =
    at_kind (view_of c.args.body) c.args.expr.now _ c.in-Index.is
    (index_place (view_of c.args.body) (shape c.in-Index.base.now) (shape c.in-Index.index.now) c.args.expr.now.span)
